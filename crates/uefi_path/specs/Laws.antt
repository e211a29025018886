-- What the definitions of paths mean, in the words of someone who uses them.
use Rattle.std.specs.Prelude.{◌≡◌, ℕ, Bool, true, false, not, ◌&&◌, List, [], ◌∷◌, ◌++◌, IfSome, Some, None, codes, Option, Decides, ◌==◌}
use Rattle.std.specs.List.{list_all}
use Rattle.uefi_path.specs.Components.{sep, no_sep, unled, components, rejoined, SamePath, same_path}
use Rattle.uefi_path.specs.Parents.{is_empty, but_last, parent}
use Rattle.uefi_path.specs.Validity.{denied, empty, empty_component, illegal_char, validate}

-- Components have no separators, and joined by separators they give the text less one leading separator.
-- Where that is not empty, they are the only such list.
pub record Cutting (us : List ℕ) (cs : List (List ℕ)) : Type 0 where
  pub bare : list_all (list_all no_sep) cs ≡ true
  pub whole : rejoined cs ≡ unled us
  pub only : (ds : List (List ℕ)) → list_all (list_all no_sep) ds ≡ true → rejoined ds ≡ unled us → is_empty (unled us) ≡ false → ds ≡ cs

-- a component that may be a name: not empty, and free of denied units
abbrev pub named : List ℕ → Bool
named c = not (is_empty c) && list_all (λ u. not (denied u)) c

-- a path that may be handed to a volume: not empty, and each component may be a name
abbrev pub valid : List ℕ → Bool
valid us = not (is_empty us) && list_all named (components us)

-- a text that begins with a separator
abbrev pub led : List ℕ → Bool
led [] = false
led (u ∷ us) = u == sep

-- being the same path is decided, is an equivalence, and does not depend on one leading separator
pub record Sameness : Type 0 where
  pub decided : (us vs : List ℕ) → Decides (same_path us vs) (SamePath us vs)
  pub itself : (us : List ℕ) → SamePath us us
  pub back : (us vs : List ℕ) → SamePath us vs → SamePath vs us
  pub along : (us vs ws : List ℕ) → SamePath us vs → SamePath vs ws → SamePath us ws
  pub lead : (us : List ℕ) → led us ≡ false → SamePath (sep ∷ us) us

-- the parent of a valid path has its components but the last
abbrev pub ParentOf : List ℕ → Option (List ℕ) → Type 0
ParentOf us r = IfSome r (λ p. valid us ≡ true → components p ≡ but_last (components us))

-- two valid paths joined have the components of both, if the first has any and the second does not begin with a separator
abbrev pub JoinOf : List ℕ → List ℕ → List ℕ → Type 0
JoinOf us vs ws =
    valid us ≡ true → valid vs ≡ true → is_empty (components us) ≡ false → led vs ≡ false →
    components ws ≡ components us ++ components vs

-- examples that a reader can check by hand
abbrev pub WorkedExamples : Type 0
WorkedExamples =
    (validate [] ≡ Some empty)
    × (validate (codes "\\") ≡ None)
    × (validate (codes "a\\") ≡ Some empty_component)
    × (validate (codes "a<b") ≡ Some (illegal_char 0x3C))
    × (parent (codes "\\a") ≡ Some [])
    × (parent (codes "a\\\\\\b\\c") ≡ Some (codes "a\\b"))
