-- What is found to be opened.
use Rattle.std.proofs.Common.{◌≡◌, ℕ, Bool, List, None, Some, Ok, Err, Option, Result, sym, refl, ap, ◌∙◌, subst, inl, inr, IsErrAnd, MatchResult}
use Rattle.std.specs.Option.{ok_or}
use Rattle.uefi_result.specs.StatusCodes.{not_found}
use Rattle.uefi_result.specs.declared.error.Error.{Error}
use Rattle.uefi_types.specs.declared.modes.FileMode.{FileMode}
use Rattle.uefi_types.specs.declared.modes.FileMode.TheVariants.{CreateReadWrite}
use Rattle.volume.specs.Answers.{refusing}
use Rattle.volume.specs.Calls.{Answer, Ends, Opened, on, writes, refused}
use Rattle.volume.specs.State.{Held}
use Rattle.volume.specs.Tree.{Name, directory, Holds, Entry}
use Rattle.volume.specs.declared.handle.Handle.{Handle}
use Rattle.volume.proofs.Puts.{none_some, put_same}
use Rattle.block_store.specs.Files.{Files}
use Rattle.ram_tables.specs.declared.rows.Row.{Row}
use Rattle.ram_tables.specs.declared.rows.EnterError.{EnterError}
use Rattle.ram_tables.specs.declared.rows.EnterError.TheVariants.{NotADirectory, BadName, Full}
use Rattle.ram_tables.specs.Lookups.{Finds}
use Rattle.ram_volume.specs.Meaning.{held_of}
use Rattle.ram_volume.specs.Moves.{Came, Creates, Reaches, not_entered}

pub found : (v : Held) (d n : ℕ) (c : Name) (m : FileMode) (attribute : ℕ) → Entry v.nodes d c n → Reaches (Ends v d c m attribute) (writes m) v (Ok n) v
found v d n c m attribute e = (λ z. none_some z e.there, refl, λ a w o. Ends.found n e o)

module _ (rows : List (Option Row)) (files : Files) (handles : List (Option Handle)) (b : Bool) (d : ℕ) (c : Name) (m : FileMode) (creates : m ≡ CreateReadWrite) (attribute : ℕ) (u : Held) where
  abbrev v : Held
  v = held_of rows files handles b

  abbrev Ending : Result ℕ (Error ℕ) → Type 0
  Ending r = Reaches (Ends v d c m attribute) (writes m) v r u

  made : (n : ℕ) → Came v d c attribute n u → Ending (Ok n)
  made n x = (
    λ z. none_some z (ap (λ (y : Held). y.nodes n) x.held ∙ put_same v.nodes n (Some x.node)),
    ap (λ (y : Held). y.handles) x.held,
    λ a w o. Ends.makes x.absent creates x.proper x.space n x.node x.made (subst (λ (y : Held). Opened (on n (writes m)) y a w) x.held o),
  )

  -- a name that was entered is found, and the refusal of one that was not is the meaning's
  pub created : (r : Result ℕ EnterError) (q : Result ℕ (Error ℕ)) → Holds v.nodes d directory → Creates v d c attribute r u
      → MatchResult r (λ n. q ≡ Ok n) (λ x. IsErrAnd q (λ e. refusing e ≡ refused (not_entered x) 0)) → Ending q
  created (Ok n) q h (inl (e, s)) p = subst Ending (sym p) (subst (λ (y : Held). Reaches (Ends v d c m attribute) (writes m) v (Ok n) y) (sym s) (found v d n c m attribute e))
  created (Ok n) q h (inr x) p = subst Ending (sym p) (made n x)
  created (Err x) (Ok n) h k p = absurd p
  created (Err NotADirectory) (Err y) h (never, s) p = absurd (never h)
  created (Err BadName) (Err y) h (absent, z, s) p = Ends.no_name absent creates z (record { answer = p; held = s })
  created (Err Full) (Err y) h (absent, z, l, s) p = Ends.full absent creates z l (record { answer = p; held = s })

-- the node of an entry, if there is one, for a mode that makes none
pub looked : (rows : List (Option Row)) (files : Files) (handles : List (Option Handle)) (b : Bool) (d : ℕ) (c : Name) (m : FileMode) (attribute : ℕ) (o : Option ℕ) (e : Error ℕ) → (m ≡ CreateReadWrite → ⊥) → Finds rows d c o
    → refusing e ≡ refused not_found 0 → let v = held_of rows files handles b in Reaches (Ends v d c m attribute) (writes m) v (ok_or o e) v
looked rows files handles b d c m attribute (Some n) e other f a = found (held_of rows files handles b) d n c m attribute (f files)
looked rows files handles b d c m attribute None e other f a = Ends.absent (f files) other (record { answer = a; held = refl })

-- what the meaning allows of opening what is found, it allows of what leads there
pub weaker : (v u : Held) (allowed more : Answer → Held → Type 0) (writable : Bool) (r : Result ℕ (Error ℕ)) → ((a : Answer) (w : Held) → allowed a w → more a w) → Reaches allowed writable v r u → Reaches more writable v r u
weaker v u allowed more writable (Ok n) f (there, same, opens) = (there, same, λ a w o. f a w (opens a w o))
weaker v u allowed more writable (Err e) f x = f (refusing e) u x
