-- What a row says of the tree, whatever bytes the files have.
use Rattle.std.proofs.Common.{◌≡◌, ℕ, ◌<◌, ◌≤◌, Bool, true, false, cond, List, [], length, set, Some, None, Option, MatchOption, Decides, is_some, ◌≢◌, sym, refl, ap, ◌∙◌, inl, inr, arith}
use mathlib.Core.Logic.{∥∥₁_elim}
use mathlib.Core.HLevel.{⊥_prop}
use Rattle.std.proofs.lemmas.Bool.{cases_Bool, both_ways, false≢true}
use Rattle.uefi_types.specs.Units.{is_text}
use Rattle.volume.specs.Tree.{Name, Node, Content, directory, file, root, Holds, Entry, put, Counts}
use Rattle.volume.proofs.Puts.{none_some, some_same}
use Rattle.ram_tables.specs.Tables.{row, count, name_of_row, content_of, node_of, node_at, tree_of, FirstThat, IsDirectory, Whole}
use Rattle.ram_tables.specs.Lookups.{Named, Finds}
use Rattle.ram_tables.specs.Moves.{HasEntries}
use Rattle.ram_tables.specs.declared.rows.Row.{Row}
use Rattle.ram_tables.proofs.Grids.{put_ext, row_same, row_other}
use Rattle.ram_tables.proofs.Counted.{counted}
use Rattle.ram_tables.proofs.Naming.{name_text}

-- some bytes, where any will do
abbrev pub no_bytes : ℕ → List ℕ
no_bytes n = []

-- the row of a node
pub row_of : (n : ℕ) (o : Option Row) (bs : List ℕ) (y : Node) → node_at n o bs ≡ Some y → (x : Row) × (o ≡ Some x) × (node_of n x bs ≡ y)
row_of n (Some r) bs y e = (r, refl, some_same refl e)
row_of n None bs y e = absurd (none_some refl e)

module _ (rows : List (Option Row)) (bytes : ℕ → List ℕ) (n : ℕ) where
  pub there_node : (r : Row) → row rows n ≡ Some r → tree_of rows bytes n ≡ Some (node_of n r (bytes n))
  there_node r e = ap (λ (o : Option Row). node_at n o (bytes n)) e

  pub there_none : row rows n ≡ None → tree_of rows bytes n ≡ None
  there_none e = ap (λ (o : Option Row). node_at n o (bytes n)) e

  pub holds_directory : (r : Row) → row rows n ≡ Some r → r.directory ≡ true → Holds (tree_of rows bytes) n directory
  holds_directory r e d = record { node = node_of n r (bytes n); there = there_node r e; content = ap (λ (b : Bool). cond b directory (file (bytes n))) d }

  pub holds_file : (r : Row) → row rows n ≡ Some r → r.directory ≡ false → Holds (tree_of rows bytes) n (file (bytes n))
  holds_file r e d = record { node = node_of n r (bytes n); there = there_node r e; content = ap (λ (b : Bool). cond b directory (file (bytes n))) d }

  pub of_holds : (c : Content) → Holds (tree_of rows bytes) n c → (r : Row) × (row rows n ≡ Some r) × (content_of r (bytes n) ≡ c)
  of_holds c h =
      let (r, e, s) = row_of n (row rows n) (bytes n) h.node h.there in
      (r, e, ap (λ (x : Node). x.content) s ∙ h.content)

  pub entry_of : (d : ℕ) (c : Name) → (n ≡ root → ⊥) → Named d c (row rows n) → Entry (tree_of rows bytes) d c n
  entry_of d c i x = record { node = node_of n x.row (bytes n); there = there_node x.row x.there; inner = i; parent = x.parent; called = x.called }

  pub of_entry : (d : ℕ) (c : Name) → Entry (tree_of rows bytes) d c n → Named d c (row rows n)
  of_entry d c f =
      let (r, e, s) = row_of n (row rows n) (bytes n) f.node f.there in
      record { row = r; there = e; parent = ap (λ (x : Node). x.parent) s ∙ f.parent; called = ap (λ (x : Node). x.name) s ∙ f.called }

-- a content of a row that is a directory's
pub kind_of : (b : Bool) (bs : List ℕ) → cond b directory (file bs) ≡ directory → b ≡ true
kind_of true bs e = refl
kind_of false bs e = cc

-- a row of a node that is a directory
pub directory_row : (rows : List (Option Row)) (bytes : ℕ → List ℕ) (n : ℕ) (r : Row) → row rows n ≡ Some r → Holds (tree_of rows bytes) n directory → r.directory ≡ true
directory_row rows bytes n r e h =
    let (q, f, s) = of_holds rows bytes n directory h in
    ap (λ (x : Row). x.directory) (some_same e f) ∙ kind_of q.directory (bytes n) s

module _ (rows : List (Option Row)) (bytes bytes' : ℕ → List ℕ) where
  -- entries and directories do not depend on the bytes
  pub entry_any : (d : ℕ) (c : Name) (n : ℕ) → Entry (tree_of rows bytes) d c n → Entry (tree_of rows bytes') d c n
  entry_any d c n f = entry_of rows bytes' n d c f.inner (of_entry rows bytes n d c f)

  pub directory_any : (n : ℕ) → Holds (tree_of rows bytes) n directory → Holds (tree_of rows bytes') n directory
  directory_any n h =
      let (r, e, s) = of_holds rows bytes n directory h in
      holds_directory rows bytes' n r e (kind_of r.directory (bytes n) s)

-- what a search among the rows found
pub found_named : (rows : List (Option Row)) (d : ℕ) (c : Name) (r : Option ℕ)
    → FirstThat rows (λ n x. (1 ≤ n) × (x.parent ≡ d) × (name_of_row x ≡ c)) (λ n x. 1 ≤ n → x.parent ≡ d → name_of_row x ≢ c) r → Finds rows d c r
found_named rows d c (Some n) h = λ bytes. entry_of rows bytes n d c (λ z. omega (arith, h.0.2.0)) (record { row = h.0.0; there = h.0.1; parent = h.0.2.1; called = h.0.2.2 })
found_named rows d c None h = λ bytes n f. (let q = of_entry rows bytes n d c f in let i = f.inner in h n q.row q.there (omega arith) q.parent q.called)

pub found_child : (rows : List (Option Row)) (d : ℕ) (r : Option ℕ) → FirstThat rows (λ n x. (1 ≤ n) × (x.parent ≡ d)) (λ n x. 1 ≤ n → x.parent ≢ d) r → Decides (is_some r) (HasEntries rows d)
found_child rows d (Some n) h = (
  λ e. (n, name_of_row h.0.0, λ bytes. entry_of rows bytes n d (name_of_row h.0.0) (λ z. omega (arith, h.0.2.0)) (record { row = h.0.0; there = h.0.1; parent = h.0.2.1; called = refl })),
  λ e. refl,
)
found_child rows d None h = (
  λ e. absurd (false≢true e),
  λ x.
      (let f = x.2 no_bytes in
      let q = of_entry rows no_bytes x.0 d x.1 f in
      let i = f.inner in
      absurd (h x.0 q.row q.there (omega arith) q.parent)),
)

pub decides_directory : (rows : List (Option Row)) (n : ℕ) (b : Bool) → MatchOption (row rows n) (b ≡ false) (λ x. b ≡ x.directory) → Decides b (IsDirectory rows n)
decides_directory rows n b h = go (row rows n) refl h
  where
    go : (o : Option Row) → row rows n ≡ o → MatchOption o (b ≡ false) (λ x. b ≡ x.directory) → Decides b (IsDirectory rows n)
    go (Some x) e h = (λ d bytes. holds_directory rows bytes n x e (sym h ∙ d), λ i. h ∙ directory_row rows no_bytes n x e (i no_bytes))
    go None e h = (λ t. absurd (false≢true (sym h ∙ t)), λ i. absurd (none_some (there_none rows no_bytes n e) (i no_bytes).there))

-- a tree that differs at one number, by its row or its bytes
pub tree_changed : (rows rows' : List (Option Row)) (bytes bytes' : ℕ → List ℕ) (i : ℕ) (x : Option Row) → row rows' i ≡ x → ((m : ℕ) → (m ≡ i → ⊥) → row rows' m ≡ row rows m)
    → ((m : ℕ) → (m ≡ i → ⊥) → bytes' m ≡ bytes m) → tree_of rows' bytes' ≡ put (tree_of rows bytes) i (node_at i x (bytes' i))
tree_changed rows rows' bytes bytes' i x here rest same = put_ext (tree_of rows' bytes') (tree_of rows bytes) i (node_at i x (bytes' i))
    (ap (λ (o : Option Row). node_at i o (bytes' i)) here)
    (λ n ne. ap (λ (o : Option Row). node_at n o (bytes' n)) (rest n ne) ∙ ap (λ (bs : List ℕ). node_at n (row rows n) bs) (same n ne))

pub tree_set : (rows : List (Option Row)) (bytes : ℕ → List ℕ) (i : ℕ) (x : Option Row) → i < length rows → tree_of (set rows i x) bytes ≡ put (tree_of rows bytes) i (node_at i x (bytes i))
tree_set rows bytes i x h = tree_changed rows (set rows i x) bytes bytes i x (row_same rows i x h) (λ m ne. row_other rows i x m ne) (λ m ne. refl)

pub counted_nodes : (rows : List (Option Row)) (bytes : ℕ → List ℕ) → Counts (tree_of rows bytes) (count rows)
counted_nodes rows bytes = counted rows (tree_of rows bytes) (there_none rows bytes) (λ n r e. (node_of n r (bytes n), there_node rows bytes n r e))

-- the root is there, and every other node's name is a text
module _ (rows : List (Option Row)) (whole : ∥ Whole rows ∥₁) where
  pub root_there : row rows root ≡ None → ⊥
  root_there e = ∥∥₁_elim whole ⊥_prop (λ w. none_some (there_none rows no_bytes root e) (w.tree no_bytes).rooted.there)

  pub row_text : (n : ℕ) (r : Row) → (n ≡ root → ⊥) → row rows n ≡ Some r → is_text (name_of_row r) ≡ true
  row_text n r i e = elim (cases_Bool (is_text (name_of_row r))) [
    | inl t ↦ t
    | inr f ↦ absurd (∥∥₁_elim whole ⊥_prop (λ w. both_ways (is_text (name_of_row r)) f (name_text (name_of_row r) ((w.tree no_bytes).named n (node_of n r []) (there_node rows no_bytes n r e) i))))
  ]
