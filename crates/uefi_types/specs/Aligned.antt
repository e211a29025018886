-- Multiples of an alignment.
use Rattle.std.specs.Prelude.{◌≡◌, ℕ, ◌+◌, ◌-◌, ◌%◌, ◌<◌, ◌≤◌}

-- how far n is below the next multiple of a
abbrev pub padding : ℕ → ℕ → ℕ
padding a n = (a - n % a) % a

-- n rounded up to a multiple of a
abbrev pub round_up : ℕ → ℕ → ℕ
round_up a n = n + padding a n

-- what that is: the least multiple of a that is not below n
abbrev pub RoundsUp : ℕ → ℕ → ℕ → Type 0
RoundsUp a n m = (m % a ≡ 0) × (n ≤ m) × (m < n + a)
