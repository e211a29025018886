-- Lists whose elements all pass a test, taken apart and put together.
use Rattle.std.proofs.Common.{◌≡◌, ℕ, suc, ◌+◌, Bool, true, false, cond, not, List, [], ◌∷◌, ◌++◌, length, take, None, sym, refl, ap, ◌∙◌, arith}
use Rattle.std.specs.List.{position, position_or_len, list_all}
use Rattle.std.proofs.lemmas.List.Folds.{list_all-append}
use Rattle.std.proofs.lemmas.Bool.{and_parts, and_from, cond-false, le-ltb}

module _ {X : Type 0} (test : X → Bool) where
  pub all_append : (xs ys : List X) → list_all test xs ≡ true → list_all test ys ≡ true → list_all test (xs ++ ys) ≡ true
  all_append xs ys h k = list_all-append test xs ys ∙ and_from (list_all test xs) (list_all test ys) h k

  pub all_right : (xs ys : List X) → list_all test (xs ++ ys) ≡ true → list_all test ys ≡ true
  all_right xs ys h = (and_parts (list_all test xs) (list_all test ys) (sym (list_all-append test xs ys) ∙ h)).1

  -- one more in front, past which a search for one that fails goes on
  passed : (x : X) (n : ℕ) → test x ≡ true → cond (not (not (test x))) (1 + n) 0 ≡ suc n
  passed x n e = let next : 1 + n ≡ suc n = omega arith in ap (λ b. cond (not (not b)) (1 + n) 0) e ∙ next

  -- what stands before the first that fails
  pub all_before : (xs : List X) → list_all test (take (position_or_len (λ x. not (test x)) xs) xs) ≡ true
  all_before [] = refl
  all_before (x ∷ xs) = by (all_before xs) (test x) refl
    where
      n : ℕ
      n = position_or_len (λ y. not (test y)) xs

      by : list_all test (take n xs) ≡ true → (b : Bool) → test x ≡ b → list_all test (take (position_or_len (λ y. not (test y)) (x ∷ xs)) (x ∷ xs)) ≡ true
      by rest true e = ap (λ k. list_all test (take k (x ∷ xs))) (passed x n e) ∙ and_from (test x) (list_all test (take n xs)) e rest
      by rest false e = ap (λ b. list_all test (take (cond (not (not b)) (1 + n) 0) (x ∷ xs))) e

  -- none fails
  all_pass : (xs : List X) → list_all test xs ≡ true → position_or_len (λ x. not (test x)) xs ≡ length xs
  all_pass [] h = refl
  all_pass (x ∷ xs) h =
      let p = and_parts (test x) (list_all test xs) h in
      passed x (position_or_len (λ y. not (test y)) xs) p.0 ∙ ap suc (all_pass xs p.1)

  pub none_fails : (xs : List X) → list_all test xs ≡ true → position (λ x. not (test x)) xs ≡ None
  none_fails xs h =
      let all = all_pass xs h in
      cond-false _ _ _ (le-ltb (position_or_len (λ x. not (test x)) xs) (length xs) (omega arith))
