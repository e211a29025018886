-- What a directory has at a position, by its rows.
use Rattle.std.proofs.Common.{◌≡◌, ℕ, ◌+◌, ◌-◌, ◌<◌, ◌≤◌, max, ◌⊎◌, List, Some, Option, sym, refl, ap, ◌∙◌, inl, inr, arith}
use Rattle.std.proofs.lemmas.Bool.{cases_lt}
use Rattle.volume.specs.Records.{Stands, Next}
use Rattle.volume.specs.Tree.{Name, Node, Content, root}
use Rattle.ram_tables.specs.Tables.{row, name_of_row, content_of, tree_of}
use Rattle.ram_tables.specs.declared.rows.Row.{Row}
use Rattle.ram_tables.proofs.Known.{there_node, row_of}

module _ (rows : List (Option Row)) (bytes : ℕ → List ℕ) (d p : ℕ) where
  -- past the two dots what stands there is an entry, and its node's number tells the place
  module _ (past : ((d ≡ root → ⊥) × (2 ≤ p)) ⊎ (d ≡ root)) where
    by_row : (q : ℕ) (other : Name) (k : Content) → Stands (tree_of rows bytes) d q other k → p ≤ q → (m : ℕ) × (x : Row) × (row rows m ≡ Some x) × (x.parent ≡ d) × (0 < m) × (q ≡ m + 2)
    by_row q other k (Stands.itself i z n c) l = absurd (elim past [ inl h ↦ omega (arith, h.1) | inr h ↦ i h ])
    by_row q other k (Stands.above i z n c) l = absurd (elim past [ inl h ↦ omega (arith, h.1) | inr h ↦ i h ])
    by_row q other k (Stands.entry m y e i a z n c) l =
        let (x, f, s) = row_of m (row rows m) (bytes m) y e in
        (m, x, f, ap (λ (v : Node). v.parent) s ∙ a, inner m i, z ∙ sym (ap (λ (v : Node). v.place) s))
      where
        inner : (m : ℕ) → (m ≡ root → ⊥) → 0 < m
        inner m h = omega arith

    pub at_child : (n : ℕ) (x : Row) → row rows n ≡ Some x → x.parent ≡ d → max p 3 - 2 ≤ n
        → ((k : ℕ) (y : Row) → max p 3 - 2 ≤ k → k < n → row rows k ≡ Some y → y.parent ≡ d → ⊥) → Next (tree_of rows bytes) d p (n + 2) (name_of_row x) (content_of x (bytes n))
    at_child n x e a l none = record {
      stands = Stands.entry n _ (there_node rows bytes n x e) (λ z. omega arith) a refl refl refl;
      from = omega arith;
      least = λ q other k s h. (let (m, y, f, b, i, z) = by_row q other k s h in
          elim (cases_lt m n) [ inl u ↦ absurd (none m y (omega arith) u f b) | inr u ↦ omega arith ]);
    }
