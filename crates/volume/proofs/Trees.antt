-- What a change at one leaf keeps of a tree.
use Rattle.std.proofs.Common.{◌≡◌, ℕ, ◌≤◌, true, List, [], ◌∷◌, Some, None, Option, sym, refl, ap, ◌∙◌, subst, inl, inr, arith}
use Rattle.volume.specs.Tree.{Route, Content, directory, file, Node, Nodes, root, is_name, Holds, Entry, Leads, Tree, File, put}
use Rattle.volume.proofs.Puts.{none_some, some_same, put_other, put_cases}

-- no entry names x as its directory
abbrev pub Leaf : Nodes → ℕ → Type 0
Leaf t x = (n : ℕ) (y : Node) → t n ≡ Some y → (n ≡ root → ⊥) → y.parent ≡ x → ⊥

-- two trees that are the same but at x, which is a leaf of both
pub record Differ (x : ℕ) (t u : Nodes) : Type 0 where
  pub same : (n : ℕ) → (n ≡ x → ⊥) → t n ≡ u n
  pub leaf_left : Leaf t x
  pub leaf_right : Leaf u x

pub turned : {x : ℕ} {t u : Nodes} → Differ x t u → Differ x u t
turned c = record { same = λ n h. sym (c.same n h); leaf_left = c.leaf_right; leaf_right = c.leaf_left }

pub holds_kept : {x : ℕ} {t u : Nodes} → Differ x t u → (n : ℕ) (k : Content) → (n ≡ x → ⊥) → Holds t n k → Holds u n k
holds_kept c n k h e = record { node = e.node; there = sym (c.same n h) ∙ e.there; content = e.content }

pub leads_kept : {x : ℕ} {t u : Nodes} → Differ x t u → (d : ℕ) (p : Route) (n : ℕ) → (n ≡ x → ⊥) → Leads t d p n → Leads u d p n
leads_kept c d [] n h e = e
leads_kept c d (k ∷ p) n h (m, e, l) = (
  m,
  record { node = e.node; there = sym (c.same n h) ∙ e.there; inner = e.inner; parent = e.parent; called = e.called },
  leads_kept c d p m (λ q. c.leaf_left n e.node e.there e.inner (e.parent ∙ q)) l,
)

pub file_kept : {x : ℕ} {t u : Nodes} → Differ x t u → (n : ℕ) (p : Route) (b : List ℕ) → (n ≡ x → ⊥) → File t n p b → File u n p b
file_kept c n p b h f = record { holds = holds_kept c n (file b) h f.holds; led = leads_kept c root p n h f.led }

-- a node has one path
pub one_path : (t : Nodes) (p q : Route) (n : ℕ) → Leads t root p n → Leads t root q n → p ≡ q
one_path t [] [] n e f = refl
one_path t [] (c ∷ q) n e (m, f, l) = absurd (f.inner e)
one_path t (c ∷ p) [] n (m, e, l) f = absurd (e.inner f)
one_path t (c ∷ p) (d ∷ q) n (m, e, l) (k, f, r) =
    let same : e.node ≡ f.node = some_same e.there f.there in
    let mk : m ≡ k = sym e.parent ∙ (ap (λ (x : Node). x.parent) same ∙ f.parent) in
    let cd : c ≡ d = sym e.called ∙ (ap (λ (x : Node). x.name) same ∙ f.called) in
    let pq : p ≡ q = one_path t p q k (subst (λ (i : ℕ). Leads t root p i) mk l) r in
    cc

-- a path leads to a node
pub there_is : (t : Nodes) → Tree t → (p : Route) (n : ℕ) → Leads t root p n → t n ≡ None → ⊥
there_is t s [] n l e = none_some e (subst (λ (i : ℕ). t i ≡ Some s.rooted.node) (sym l) s.rooted.there)
there_is t s (c ∷ p) n (m, f, l) e = none_some e f.there

pub one_kind : (t : Nodes) (n : ℕ) (b : List ℕ) → Holds t n directory → Holds t n (file b) → ⊥
one_kind t n b d f = let same : d.node ≡ f.node = some_same d.there f.there in
    let one : directory ≡ file b = sym d.content ∙ (ap (λ (x : Node). x.content) same ∙ f.content) in
    let z : ◌≡◌ {A = ℕ} 0 1 = cc in omega arith

-- no file has an entry, nor has a number with no node
pub file_leaf : (t : Nodes) → Tree t → (x : ℕ) (b : List ℕ) → Holds t x (file b) → Leaf t x
file_leaf t s x b f n y e i p = one_kind t x b (subst (λ (k : ℕ). Holds t k directory) p (s.parents n y e i)) f

pub free_leaf : (t : Nodes) → Tree t → (x : ℕ) → t x ≡ None → Leaf t x
free_leaf t s x e n y q i p = none_some e (subst (λ (k : ℕ). Holds t k directory) p (s.parents n y q i)).there

-- a path leads to one node
pub one_node : (t : Nodes) → Tree t → (d : ℕ) (p : Route) (m n : ℕ) → Leads t d p m → Leads t d p n → m ≡ n
one_node t s d [] m n e f = e ∙ sym f
one_node t s d (c ∷ p) m n (i, e, l) (j, f, r) =
    s.names_apart i m n c e (subst (λ (k : ℕ). Entry t k c n) (sym (one_node t s d p i j l r)) f)

-- what a node that comes to stand at x has to have: its own name and place in a directory
pub record Fits (t : Nodes) (x : ℕ) (z : Node) : Type 0 where
  pub dir : Holds t z.parent directory
  pub elsewhere : z.parent ≡ x → ⊥
  pub above : 2 ≤ z.place
  pub proper : is_name z.name ≡ true
  pub name_apart : (n : ℕ) (w : Node) → t n ≡ Some w → (n ≡ x → ⊥) → (n ≡ root → ⊥) → z.parent ≡ w.parent → z.name ≡ w.name → ⊥
  pub place_apart : (n : ℕ) (w : Node) → t n ≡ Some w → (n ≡ x → ⊥) → (n ≡ root → ⊥) → z.parent ≡ w.parent → z.place ≡ w.place → ⊥

module _ (t : Nodes) (s : Tree t) (x : ℕ) (y : Option Node) (leaf : Leaf t x) (inner : x ≡ root → ⊥) (fits : (z : Node) → y ≡ Some z → Fits t x z) where
  -- a tree changed at a leaf that is not the root
  pub put_differ : Differ x t (put t x y)
  put_differ = record {
    same = λ n h. sym (put_other t x n y h);
    leaf_left = leaf;
    leaf_right = λ n z e i p. elim (put_cases t x n y (Some z) e) [
      | inl h ↦ (fits z h.1).elsewhere p
      | inr h ↦ leaf n z h.1 i p
    ];
  }

  -- no two numbers whose nodes are so related, if neither the new node and an old one are, nor two old ones
  alone : (R : ℕ → Node → ℕ → Node → Type 0) → ((m n : ℕ) (a b : Node) → R m a n b → R n b m a)
      → ((m n : ℕ) (z w : Node) → y ≡ Some z → t n ≡ Some w → (n ≡ x → ⊥) → R m z n w → ⊥)
      → ((m n : ℕ) (a b : Node) → t m ≡ Some a → t n ≡ Some b → R m a n b → m ≡ n)
      → (m n : ℕ) (a b : Node) → put t x y m ≡ Some a → put t x y n ≡ Some b → R m a n b → m ≡ n
  alone R turn new old m n a b e f r = elim (put_cases t x m y (Some a) e) [
    | inl h ↦ elim (put_cases t x n y (Some b) f) [
      | inl k ↦ h.0 ∙ sym k.0
      | inr k ↦ absurd (new m n a b h.1 k.1 k.0 r)
    ]
    | inr h ↦ elim (put_cases t x n y (Some b) f) [
      | inl k ↦ absurd (new n m b a k.1 h.1 h.0 (turn m n a b r))
      | inr k ↦ old m n a b h.1 k.1 r
    ]
  ]

  pub put_tree : Tree (put t x y)
  put_tree = record {
    rooted = holds_kept put_differ root directory (λ e. inner (sym e)) s.rooted;
    parents = λ n z e i. elim (put_cases t x n y (Some z) e) [
      | inl h ↦ holds_kept put_differ z.parent directory (fits z h.1).elsewhere (fits z h.1).dir
      | inr h ↦ holds_kept put_differ z.parent directory (leaf n z h.1 i) (s.parents n z h.1 i)
    ];
    names_apart = λ d m n c e f. alone
        (λ m a n b. (m ≡ root → ⊥) × (n ≡ root → ⊥) × (a.parent ≡ b.parent) × (a.name ≡ b.name))
        (λ m n a b r. (r.1, r.0, sym r.2, sym r.3))
        (λ m n z w q g o r. (fits z q).name_apart n w g o r.1 r.2 r.3)
        (λ m n a b p q r. s.names_apart b.parent m n b.name
        (record { node = a; there = p; inner = r.0; parent = r.2; called = r.3 }) (record { node = b; there = q; inner = r.1; parent = refl; called = refl }))
        m n e.node f.node e.there f.there (e.inner, f.inner, e.parent ∙ sym f.parent, e.called ∙ sym f.called);
    places_apart = λ m n a b e f i j p q. alone
        (λ m a n b. (m ≡ root → ⊥) × (n ≡ root → ⊥) × (a.parent ≡ b.parent) × (a.place ≡ b.place))
        (λ m n a b r. (r.1, r.0, sym r.2, sym r.3))
        (λ m n z w q g o r. (fits z q).place_apart n w g o r.1 r.2 r.3)
        (λ m n a b p q r. s.places_apart m n a b p q r.0 r.1 r.2 r.3)
        m n a b e f (i, j, p, q);
    places_above = λ n z e i. elim (put_cases t x n y (Some z) e) [
      | inl h ↦ (fits z h.1).above
      | inr h ↦ s.places_above n z h.1 i
    ];
    named = λ n z e i. elim (put_cases t x n y (Some z) e) [
      | inl h ↦ (fits z h.1).proper
      | inr h ↦ s.named n z h.1 i
    ];
    reached = λ n z e. elim (put_cases t x n y (Some z) e) [
      | inl h ↦ (let (p, l) = s.reached z.parent (fits z h.1).dir.node (fits z h.1).dir.there in
          (z.name ∷ p, (z.parent, record { node = z; there = e; inner = λ q. inner (sym h.0 ∙ q); parent = refl; called = refl }, leads_kept put_differ root p z.parent (fits z h.1).elsewhere l)))
      | inr h ↦ (let (p, l) = s.reached n z h.1 in (p, leads_kept put_differ root p n h.0 l))
    ];
  }
