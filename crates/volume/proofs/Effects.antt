-- The ways in which a call can leave a volume: a step's cases, gathered by what they do.
use Rattle.std.proofs.Common.{◌≡◌, ℕ, true, leb, ◌⊎◌, List, [], length, Some, None, Option, refl, ap, inl, inr, arith}
use Rattle.std.proofs.lemmas.Bool.{and_parts}
use Rattle.uefi_types.specs.declared.modes.FileMode.{FileMode}
use Rattle.uefi_types.specs.declared.modes.FileMode.TheVariants.{CreateReadWrite}
use Rattle.volume.specs.Tree.{Name, Route, is_name, directory, Node, root, Holds, Entry}
use Rattle.volume.specs.State.{Held, State, misuse, opened, closed, moved, created, removed}
use Rattle.volume.specs.Calls.{Call, open_volume, open_from, close, delete, get_position, get_info, read, write, flush, Answer, accepted, refused, Opened, on, writes as mode_writes, Through, OpenVolume, Made, Ends, Walk, OpenFrom, GetPosition, Lists, ReadOf, Written, Write, Close, Kept, Delete, Does, Step}
use Rattle.volume.specs.Laws.{handle_of}
use Rattle.volume.specs.declared.handle.Handle.{Handle}

-- the node of a new handle is the root, or there
abbrev pub Stood : Held → ℕ → Type 0
Stood v n = (n ≡ root) ⊎ ((x : Node) × (v.nodes n ≡ Some x))

pub data Effect (v : Held) (capacity : ℕ → ℕ) (q : Call) (a : Answer) (w : Held) : Type 0 where
  nothing : w ≡ v → Effect v capacity q a w
  flagged : (k : ℕ) → handle_of q ≡ Some k → v.handles k ≡ None → w ≡ misuse v → Effect v capacity q a w
  opens : (k : ℕ) (h : Handle) → v.handles k ≡ None → Stood v h.node → a ≡ accepted k [] → w ≡ opened k h v → Effect v capacity q a w
  makes : (j : ℕ) (p : Route) (t : ℕ) → q ≡ open_from j p CreateReadWrite t → (d : ℕ) (last : Name) → Holds v.nodes d directory → ((n : ℕ) → Entry v.nodes d last n → ⊥) → is_name last ≡ true
      → (n : ℕ) (x : Node) → Made v.nodes d last t n x → (k : ℕ) (h : Handle) → h.node ≡ n → v.handles k ≡ None → a ≡ accepted k [] → w ≡ opened k h (created n x v) → Effect v capacity q a w
  ends : (k : ℕ) (h : Handle) → (q ≡ close k) ⊎ (q ≡ delete k) → v.handles k ≡ Some h → ((s l : ℕ) → a ≡ refused s l → q ≡ delete k) → w ≡ closed k v → Effect v capacity q a w
  removes : (k : ℕ) (h : Handle) → q ≡ delete k → v.handles k ≡ Some h → (Kept v k h → ⊥) → a ≡ accepted 0 [] → w ≡ removed h.node (closed k v) → Effect v capacity q a w
  moves : (k : ℕ) (h : Handle) (p : ℕ) (m : ℕ) (bs : List ℕ) → v.handles k ≡ Some h → a ≡ accepted m bs → w ≡ moved k h p v → Effect v capacity q a w
  fills : (k : ℕ) (bs : List ℕ) (h : Handle) → q ≡ write k bs → v.handles k ≡ Some h → Written v capacity k bs h a w → Effect v capacity q a w

pub accepted_refused : {n s l : ℕ} {bs : List ℕ} {a : Answer} → a ≡ accepted n bs → a ≡ refused s l → ⊥
accepted_refused {n} {s} {l} {bs} {a} p q = let z : ◌≡◌ {A = ℕ} 0 1 = cc in absurd_one z
  where
    absurd_one : ◌≡◌ {A = ℕ} 0 1 → ⊥
    absurd_one z = omega arith

module _ (v : Held) (capacity : ℕ → ℕ) (a : Answer) (w : Held) where
  opened_effect : (q : Call) (h : Handle) → Stood v h.node → Opened h v a w → Effect v capacity q a w
  opened_effect q h s o = Effect.opens o.number h o.fresh s o.answer o.held

  through : (q : Call) (k : ℕ) → handle_of q ≡ Some k → (refuses : Option ℕ) (said : ℕ → ℕ) (left : Held) (Goes : Handle → Answer → Held → Type 0)
      → ((h : Handle) → v.handles k ≡ Some h → (s : ℕ) → a ≡ refused s 0 → w ≡ left → Effect v capacity q a w)
      → ((h : Handle) → v.handles k ≡ Some h → Goes h a w → Effect v capacity q a w) → Through v refuses k said left Goes a w → Effect v capacity q a w
  through q k n refuses said left Goes f g (Through.misused e r x) = Effect.flagged k n e x
  through q k n refuses said left Goes f g (Through.due h s e d r x) = f h e (said s) r x
  through q k n refuses said left Goes f g (Through.goes h e d x) = g h e x

  last_effect : (k : ℕ) (p : Route) (d : ℕ) (last : Name) (m : FileMode) (t : ℕ) → Holds v.nodes d directory → Ends v d last m t a w → Effect v capacity (open_from k p m t) a w
  last_effect k p d last m t dir (Ends.found n e o) = opened_effect _ _ (inr (e.node, e.there)) o
  last_effect k p d last m t dir (Ends.absent f x r) = Effect.nothing r.held
  last_effect k p d last m t dir (Ends.no_name f x y r) = Effect.nothing r.held
  last_effect k p d last m t dir (Ends.full f x y z r) = Effect.nothing r.held
  last_effect k p d last m t dir (Ends.makes f x na z n y ma o) =
      Effect.makes k p t (ap (λ (i : FileMode). open_from k p i t) x) d last dir f (and_parts (is_name last) (leb (length last) v.limits.name) na).0 n y ma
      o.number (on n (mode_writes m)) refl o.fresh o.answer o.held

  walk_effect : (k from : ℕ) (p : Route) (m : FileMode) (t : ℕ) → Holds v.nodes from directory → Walk v from p m t a w → Effect v capacity (open_from k p m t) a w
  walk_effect k from p m t here (Walk.own e o) = opened_effect _ _ (inr (here.node, here.there)) o
  walk_effect k from p m t here (Walk.dotted d r) = Effect.nothing r.held
  walk_effect k from p m t here (Walk.lost f l e x r) = Effect.nothing r.held
  walk_effect k from p m t here (Walk.ends f l d e x led dir y) = last_effect k p d l m t dir y

  open_effect : (k : ℕ) (p : Route) (m : FileMode) (t : ℕ) (h : Handle) → OpenFrom v p m t h a w → Effect v capacity (open_from k p m t) a w
  open_effect k p m t h (OpenFrom.spent l r) = Effect.nothing r.held
  open_effect k p m t h (OpenFrom.no_directory l bs f r) = Effect.nothing r.held
  open_effect k p m t h (OpenFrom.walks l d x) = walk_effect k h.node p m t d x

  lists_effect : (k n : ℕ) (h : Handle) → v.handles k ≡ Some h → Lists v k n h a w → Effect v capacity (read k n) a w
  lists_effect k n h e (Lists.gives place name c bs x r l z y) = Effect.moves k h _ _ _ e z y
  lists_effect k n h e (Lists.short place name c bs x r l z) = Effect.nothing z.held
  lists_effect k n h e (Lists.ends x z y) = Effect.nothing y

  read_effect : (k n : ℕ) (h : Handle) → v.handles k ≡ Some h → (cap : Option ℕ) → ReadOf v cap k n h a w → Effect v capacity (read k n) a w
  read_effect k n h e cap (ReadOf.of_file bs m f c r x) = Effect.moves k h _ _ _ e r x
  read_effect k n h e cap (ReadOf.of_directory d x) = lists_effect k n h e x

  write_effect : (k : ℕ) (bs : List ℕ) (h : Handle) → v.handles k ≡ Some h → Write v capacity k bs h a w → Effect v capacity (write k bs) a w
  write_effect k bs h e (Write.denied b r) = Effect.nothing r.held
  write_effect k bs h e (Write.no_file b d r) = Effect.nothing r.held
  write_effect k bs h e (Write.of_file b r) = Effect.fills k bs h refl e r

  position_effect : (k : ℕ) (h : Handle) → GetPosition v h a w → Effect v capacity (get_position k) a w
  position_effect k h (GetPosition.of_file bs f r e) = Effect.nothing e
  position_effect k h (GetPosition.no_file d r) = Effect.nothing r.held

  delete_effect : (k : ℕ) (h : Handle) → v.handles k ≡ Some h → Delete v k h a w → Effect v capacity (delete k) a w
  delete_effect k h e (Delete.keeps i r x) = Effect.ends k h (inr refl) e (λ s l z. refl) x
  delete_effect k h e (Delete.removes i r x) = Effect.removes k h refl e i r x

pub effect : (v w : State) (q : Call) (a : Answer) → Step v q a w → Effect v.held v.capacity q a w.held
effect v w q a st = go q st.does
  where
    go : (q : Call) → Does v.held v.capacity v.due q a w.held → Effect v.held v.capacity q a w.held
    go open_volume (OpenVolume.due s d r) = Effect.nothing r.held
    go open_volume (OpenVolume.spent d l r) = Effect.nothing r.held
    go open_volume (OpenVolume.opens d l o) = opened_effect v.held v.capacity a w.held open_volume _ (inl refl) o
    go (open_from k p m t) x = through v.held v.capacity a w.held _ k refl _ _ _ _ (λ h e s r z. Effect.nothing z) (λ h e y. open_effect v.held v.capacity a w.held k p m t h y) x
    go (close k) (Close.misused e r x) = Effect.flagged k refl e x
    go (close k) (Close.closes h e r x) = Effect.ends k h (inl refl) e (λ s l z. absurd (accepted_refused r z)) x
    go (delete k) x = through v.held v.capacity a w.held _ k refl _ _ _ _ (λ h e s r z. Effect.ends k h (inr refl) e (λ s l z. refl) z) (λ h e y. delete_effect v.held v.capacity a w.held k h e y) x
    go (get_position k) x = through v.held v.capacity a w.held _ k refl _ _ _ _ (λ h e s r z. Effect.nothing z) (λ h e y. position_effect v.held v.capacity a w.held k h y) x
    go (get_info k n) x = through v.held v.capacity a w.held _ k refl _ _ _ _ (λ h e s r z. Effect.nothing z) (λ h e y. Effect.nothing y.held) x
    go (read k n) x = through v.held v.capacity a w.held _ k refl _ _ _ _ (λ h e s r z. Effect.nothing z) (λ h e y. read_effect v.held v.capacity a w.held k n h e v.due.cap y) x
    go (write k bs) x = through v.held v.capacity a w.held _ k refl _ _ _ _ (λ h e s r z. Effect.nothing z) (λ h e y. write_effect v.held v.capacity a w.held k bs h e y) x
    go (flush k) x = through v.held v.capacity a w.held _ k refl _ _ _ _ (λ h e s r z. Effect.nothing z) (λ h e y. Effect.nothing y.1) x
