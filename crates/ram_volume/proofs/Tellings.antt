-- Records that are delivered.
use Rattle.std.proofs.Common.{◌≡◌, ℕ, ◌+◌, ◌*◌, ◌<◌, ◌≤◌, Bool, true, false, cond, eqb, ltb, ◌⊎◌, List, [], ◌∷◌, ◌++◌, length, take, drop, replicate, IfOk, IsErrAnd, Some, None, Ok, Err, Option, Result, sym, refl, ap, ◌∙◌, subst, inl, inr, arith, MatchResult}
use Rattle.std.proofs.lemmas.List.{take_at}
use Rattle.std.proofs.lemmas.Bool.{cases_eq, eq-eqb, ne_eqb, ltb-true, ltb-false}
use Rattle.uefi_types.specs.Refusal.{Refusal}
use Rattle.uefi_types.specs.Units.{is_text, text_unit}
use Rattle.uefi_types.proofs.Tested.{none_fails}
use Rattle.uefi_result.specs.StatusCodes.{buffer_too_small}
use Rattle.uefi_result.specs.declared.error.Error.{Error}
use Rattle.uefi_time.specs.Times.{time_bytes}
use Rattle.uefi_time.specs.declared.time.Time.{Time}
use Rattle.uefi_info.specs.Infos.{file_info_bytes, file_info_length}
use Rattle.uefi_info.specs.Parsed.{bad_unit, short_buffer, fitting, building, written}
use Rattle.uefi_info.specs.Refusals.{refused as built_refused}
use Rattle.uefi_info.specs.declared.info.FileInfoCreationError.{FileInfoCreationError}
use Rattle.uefi_info.specs.declared.info.FileInfoCreationError.TheVariants.{BadUnit, ShortBuffer}
use Rattle.volume.specs.Answers.{delivered, filled, refusing}
use Rattle.volume.specs.Calls.{Answer, accepted, refused, Delivers, GetInfo, Lists}
use Rattle.volume.specs.Records.{size_of, attribute_of, name_of, RecordOf, Stands}
use Rattle.volume.specs.State.{Held, moved}
use Rattle.volume.specs.Tree.{Name, Content, Node, directory, file, root}
use Rattle.volume.specs.declared.handle.Handle.{Handle}
use Rattle.volume.specs.declared.handle.NodeKind.TheVariants.{File}
use Rattle.volume.proofs.Puts.{some_same}
use Rattle.block_store.specs.Files.{Files, blocks_for}
use Rattle.ram_tables.specs.Tables.{row, name_of_row, content_of, node_of, tree_of, Whole}
use Rattle.ram_tables.specs.Lookups.{Lists as RowLists}
use Rattle.ram_tables.specs.declared.rows.Row.{Row}
use Rattle.ram_tables.specs.declared.rows.Listed.TheVariants.{Child}
use Rattle.ram_tables.proofs.Known.{no_bytes, row_of, row_text, there_node}
use Rattle.ram_volume.specs.Meaning.{held_of}
use Rattle.ram_volume.specs.Standing.{is_directory, On}
use Rattle.ram_volume.specs.declared.at.At.{At}
use Rattle.ram_volume.specs.Telling.{Describes, Listing, Told, unbuilt, answer_for}
use Rattle.ram_volume.specs.declared.about.About.{About}

short_same : (m n : ℕ) → ◌≡◌ {A = Result ℕ Refusal} (Err (short_buffer m)) (Err (short_buffer n)) → m ≡ n
short_same m n e = let z : short_buffer m ≡ short_buffer n = cc in let y : ◌≡◌ {A = List ℕ} (m ∷ []) (n ∷ []) = ap (λ (r : Refusal). r.values) z in cc

never_short : (p n : ℕ) → ◌≡◌ {A = Result ℕ Refusal} (Err (bad_unit p)) (Err (short_buffer n)) → ⊥
never_short p n e = let z : bad_unit p ≡ short_buffer n = cc in let y : ◌≡◌ {A = ℕ} 21 15 = ap (λ (r : Refusal). r.number) z in omega arith

-- what building a record of a text came to: it is there, or it has too little room
fate : (space needed : ℕ) (built : Result ℕ FileInfoCreationError) (b : Bool) → ltb space needed ≡ b → built_refused built ≡ cond b (Err (short_buffer needed)) (Ok needed)
    → ((built ≡ Ok needed) × (needed ≤ space)) ⊎ ((built ≡ Err (ShortBuffer needed)) × (space < needed))
fate space needed (Ok n) true t e = cc
fate space needed (Ok n) false t e = let z : n ≡ needed = cc in inl (ap Ok z, ltb-false space needed t)
fate space needed (Err (ShortBuffer n)) true t e = let z : n ≡ needed = short_same n needed e in inr (ap (λ (m : ℕ). Err (ShortBuffer m)) z, ltb-true space needed t)
fate space needed (Err (ShortBuffer n)) false t e = cc
fate space needed (Err (BadUnit p)) true t e = absurd (never_short p needed e)
fate space needed (Err (BadUnit p)) false t e = cc

module _ (size attribute : ℕ) (name old new : List ℕ) (zero : Time) (built : Result ℕ FileInfoCreationError) (r : Result ℕ (Error ℕ)) where
  abbrev told_bytes : List ℕ
  told_bytes = file_info_bytes size (512 * blocks_for size) zero zero zero attribute name

  module _ (zeroed : time_bytes zero ≡ replicate 16 0) (text : is_text name ≡ true) (value : built_refused built ≡ building 80 8 name old)
      (after : new ≡ written told_bytes (built_refused built) old) (long : length told_bytes ≡ file_info_length name) (answer : delivered r new ≡ answer_for built new) where
    fated : ((built ≡ Ok (file_info_length name)) × (file_info_length name ≤ length old)) ⊎ ((built ≡ Err (ShortBuffer (file_info_length name))) × (length old < file_info_length name))
    fated = fate (length old) (file_info_length name) built (ltb (length old) (file_info_length name)) refl
        (value ∙ ap (λ (o : Option ℕ). fitting (length old) (file_info_length name) o) (none_fails text_unit name text))

    -- the record stands in front of the buffer
    stands : built ≡ Ok (file_info_length name) → new ≡ told_bytes ++ drop (file_info_length name) old
    stands e = after ∙ ap (λ (q : Result ℕ FileInfoCreationError). written told_bytes (built_refused q) old) e

    front : built ≡ Ok (file_info_length name) → take (file_info_length name) new ≡ told_bytes
    front e = ap (take (file_info_length name)) (stands e) ∙ take_at told_bytes (drop (file_info_length name) old) (file_info_length name) long

    came : built ≡ Ok (file_info_length name) → delivered r new ≡ accepted (length told_bytes) told_bytes
    came e = answer ∙ (ap (λ (q : Result ℕ FileInfoCreationError). answer_for q new) e
        ∙ (ap (λ (bs : List ℕ). accepted (file_info_length name) bs) (front e) ∙ ap (λ (n : ℕ). accepted n told_bytes) (sym long)))

    lacked : built ≡ Err (ShortBuffer (file_info_length name)) → delivered r new ≡ refused buffer_too_small (length told_bytes)
    lacked e = answer ∙ (ap (λ (q : Result ℕ FileInfoCreationError). answer_for q new) e ∙ ap (λ (n : ℕ). refused buffer_too_small n) (sym long))

    delivers_by : Delivers (length old) told_bytes (delivered r new)
    delivers_by = elim fated [
      | inl (e, l) ↦ Delivers.whole (omega (arith, long)) (came e)
      | inr (e, l) ↦ Delivers.short (omega (arith, long)) (lacked e)
    ]

    pub told_by : Told size attribute name (length old) (delivered r new)
    told_by = record { zero = zero; zeroed = zeroed; bytes = told_bytes; is = refl; delivers = delivers_by }

    pub filled_by : new ≡ filled old (delivered r new)
    filled_by = elim fated [
      | inl (e, l) ↦ stands e ∙ (ap (λ (n : ℕ). told_bytes ++ drop n old) (sym long) ∙ sym (ap (filled old) (came e)))
      | inr (e, l) ↦ after ∙ (ap (λ (q : Result ℕ FileInfoCreationError). written told_bytes (built_refused q) old) e ∙ sym (ap (filled old) (lacked e)))
    ]

-- an answer that was accepted tells how many bytes were delivered, which fit
pub within_by : (r : Result ℕ (Error ℕ)) (space : ℕ) (bytes new : List ℕ) → Delivers space bytes (delivered r new) → IfOk r (λ n. n ≤ space)
within_by (Ok n) space bytes new (Delivers.whole l e) = let z : n ≡ length bytes = cc in omega arith
within_by (Ok n) space bytes new (Delivers.short l e) = cc
within_by (Err e) space bytes new d = tt

-- the answer of a record that was built, or of one that was not
pub answered : (built : Result ℕ FileInfoCreationError) (r : Result ℕ (Error ℕ)) (new : List ℕ) → MatchResult built (λ n. r ≡ Ok n) (λ x. IsErrAnd r (λ e. refusing e ≡ unbuilt x)) → delivered r new ≡ answer_for built new
answered (Ok n) r new e = ap (λ (q : Result ℕ (Error ℕ)). delivered q new) e
answered (Err x) (Ok n) new e = absurd e
answered (Err x) (Err y) new e = e

-- what is told is the meaning's record
pub told_record : (about : About) (c : Content) (name : Name) (space : ℕ) (a : Answer) → Describes about c name → (t : Told about.size about.attribute.0 about.name.now space a) → RecordOf None name c t.bytes
told_record about c name space a d t =
    record { physical = 512 * blocks_for about.size; created = t.zero; accessed = t.zero; modified = t.zero; is = t.is ∙ same about.size about.attribute.0 about.name.now d.size d.attribute d.name }
  where
    same : (size attribute : ℕ) (called : Name) → size ≡ size_of None c → attribute ≡ attribute_of c → called ≡ name
        → file_info_bytes size (512 * blocks_for about.size) t.zero t.zero t.zero attribute called ≡ file_info_bytes (size_of None c) (512 * blocks_for about.size) t.zero t.zero t.zero (attribute_of c) name
    same size attribute called p q r = cc

-- an entry that is told of, and the handle moved past it
module _ (v : Held) (k space : ℕ) (h : Handle) (place : ℕ) (about : About) (l : Listing v.nodes h.node h.position place about) where
  pub listed : (w : Held) (n : ℕ) (new : List ℕ) → Told about.size about.attribute.0 about.name.now space (delivered (Ok n) new) → w ≡ moved k h (place + 1) v → Lists v k space h (delivered (Ok n) new) w
  listed w n new t q = by t.bytes (told_record about l.content l.name space (delivered (Ok n) new) l.describes t) t.delivers
    where
      by : (bytes : List ℕ) → RecordOf None l.name l.content bytes → Delivers space bytes (delivered (Ok n) new) → Lists v k space h (delivered (Ok n) new) w
      by bytes is (Delivers.whole s a) = Lists.gives place l.name l.content bytes l.next is s a q
      by bytes is (Delivers.short s a) = cc

  pub unlisted : (e : Error ℕ) → Told about.size about.attribute.0 about.name.now space (refusing e) → Lists v k space h (refusing e) v
  unlisted e t = by t.bytes (told_record about l.content l.name space (refusing e) l.describes t) t.delivers
    where
      by : (bytes : List ℕ) → RecordOf None l.name l.content bytes → Delivers space bytes (refusing e) → Lists v k space h (refusing e) v
      by bytes is (Delivers.whole s a) = cc
      by bytes is (Delivers.short s a) = Lists.short place l.name l.content bytes l.next is s (record { answer = a; held = refl })

-- an entry that a directory has is not the root's
pub inner_place : (rows : List (Option Row)) (d p n : ℕ) → RowLists rows d p (Some (Child n)) → n ≡ root → ⊥
inner_place rows d p n (x, e, l, next) z = by (next no_bytes).stands
  where
    by : Stands (tree_of rows no_bytes) d (n + 2) (name_of_row x) (content_of x []) → ⊥
    by (Stands.itself i q m k) = omega arith
    by (Stands.above i q m k) = omega arith
    by (Stands.entry m y f i q place called k) =
        let (r, g, s) = row_of m (row rows m) [] y f in
        i (omega (arith, place, sym (ap (λ (v : Node). v.place) s), z))

-- the name by which a node goes is a text
pub told_text : (rows : List (Option Row)) → ∥ Whole rows ∥₁ → (n : ℕ) (r : Row) → row rows n ≡ Some r → is_text (cond (eqb n 0) [] (name_of_row r)) ≡ true
told_text rows whole n r f = elim (cases_eq n 0) [
  | inl e ↦ ap (λ (b : Bool). is_text (cond b [] (name_of_row r))) (eq-eqb n 0 e)
  | inr e ↦ ap (λ (b : Bool). is_text (cond b [] (name_of_row r))) (ne_eqb n 0 e) ∙ row_text rows whole n r e f
]

-- what is told of a row's content and name is told of its node
pub described : (rows : List (Option Row)) (files : Files) (n : ℕ) (r : Row) → row rows n ≡ Some r → (about : About) (c : Content) (name : Name) → content_of r (files n) ≡ c → name ≡ cond (eqb n 0) [] (name_of_row r)
    → Describes about c name → (x : Node) → tree_of rows files n ≡ Some x → Describes about x.content (name_of n x)
described rows files n r e about c name k m d x f =
    subst (λ (y : Node). Describes about y.content (name_of n y)) (some_same (there_node rows files n r e) f)
    (record { size = d.size ∙ sym (ap (size_of None) k); attribute = d.attribute ∙ sym (ap attribute_of k); name = d.name ∙ m })

-- the record of a handle's node
module _ {rows : List (Option Row)} {handles : List (Option Handle)} {at : At} (o : On rows handles at) (files : Files) (about : About) (told : (x : Node) → tree_of rows files at.handle.node ≡ Some x → Describes about x.content (name_of at.handle.node x)) where
  abbrev node : Node
  node = node_of at.handle.node o.node (files at.handle.node)

  there : tree_of rows files at.handle.node ≡ Some node
  there = there_node rows files at.handle.node o.node o.there

  pub informed : (b : Bool) (space : ℕ) (a : Answer) → Told about.size about.attribute.0 about.name.now space a → GetInfo (held_of rows files handles b) None space at.handle a (held_of rows files handles b)
  informed b space a t = record { node = node; there = there; bytes = t.bytes; tells = told_record about node.content (name_of at.handle.node node) space a (told node there) t; delivers = t.delivers; held = refl }

  -- of a file its size
  pub sized : at.kind ≡ File → about.size ≡ length (files at.handle.node)
  sized e = (told node there).size ∙ ap (λ (b : Bool). size_of None (cond b directory (file (files at.handle.node)))) (o.kinded ∙ ap is_directory e)

-- what is told of the next entry, that of a node
pub child_listed : (rows : List (Option Row)) (files : Files) (d p n : ℕ) (about : About) → RowLists rows d p (Some (Child n)) → ((x : Node) → tree_of rows files n ≡ Some x → Describes about x.content (name_of n x))
    → Listing (tree_of rows files) d p (n + 2) about
child_listed rows files d p n about l told =
    let (r, e, within, next) = l in
    let t = told (node_of n r (files n)) (there_node rows files n r e) in
    record {
      name = name_of_row r;
      content = content_of r (files n);
      next = next files;
      describes = record { size = t.size; attribute = t.attribute; name = t.name ∙ ap (λ (b : Bool). cond b [] (name_of_row r)) (ne_eqb n 0 (inner_place rows d p n l)) };
      near = omega arith;
    }
