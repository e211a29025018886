-- Files that are read and written.
use Rattle.std.proofs.Common.{◌≡◌, ℕ, ◌+◌, ◌-◌, ◌<◌, min, Bool, false, cond, ◌⊎◌, List, [], ◌++◌, length, take, drop, None, Option, ap, ◌∙◌, subst, arith}
use Rattle.std.proofs.lemmas.List.{length-take, length-drop, take-append-le, take-take}
use Rattle.uefi_result.specs.StatusCodes.{volume_full}
use Rattle.volume.specs.Calls.{Answer, accepted, refused, ReadOf, Written}
use Rattle.volume.specs.State.{Held, moved}
use Rattle.volume.specs.Tree.{file, directory}
use Rattle.volume.specs.declared.handle.Handle.{Handle}
use Rattle.volume.specs.declared.handle.NodeKind.TheVariants.{File}
use Rattle.block_store.specs.Files.{Files, replaced, overwritten}
use Rattle.ram_tables.specs.Tables.{node_of}
use Rattle.ram_tables.specs.declared.rows.Row.{Row}
use Rattle.ram_tables.proofs.Known.{there_node}
use Rattle.ram_volume.specs.Meaning.{held_of}
use Rattle.ram_volume.specs.Moves.{Wrote}
use Rattle.ram_volume.specs.Standing.{is_directory, On}
use Rattle.ram_volume.specs.declared.at.At.{At}
use Rattle.ram_volume.proofs.Helds.{changed_held}
use Rattle.ram_volume.proofs.Standings.{on_file}

-- what a read leaves in the buffer: what was read in front, and the rest as it was
module _ (bs old new : List ℕ) (p n : ℕ) (count : n ≡ min (length old) (length bs - p)) (got : new ≡ take n (drop p bs) ++ drop n old) where
  long : length (take n (drop p bs)) ≡ n
  long = simp (length-take, length-drop) (omega arith)

  pub front_read : take n new ≡ take n (drop p bs)
  front_read = ap (take n) got ∙ (take-append-le n (take n (drop p bs)) (drop n old) (omega (arith, long)) ∙ take-take n n (drop p bs) (omega arith))

module _ (rows : List (Option Row)) (files : Files) (handles : List (Option Handle)) (b : Bool) (at : At) (o : On rows handles at) (of_file : at.kind ≡ File) where
  abbrev h : Handle
  h = at.handle

  pub was_read : (w : Held) (old new : List ℕ) (n : ℕ) → n ≡ min (length old) (length (files h.node) - h.position) → new ≡ take n (drop h.position (files h.node)) ++ drop n old
      → w ≡ moved at.number h (h.position + n) (held_of rows files handles b) → ReadOf (held_of rows files handles b) None at.number (length old) h (accepted n (take n new)) w
  was_read w old new n count got e = ReadOf.of_file (files h.node) n (on_file o files of_file) count
      (ap (λ (xs : List ℕ). accepted n xs) (front_read (files h.node) old new h.position n count got)) e

  pub was_written : (w : Held) (files' : Files) (capacity : ℕ → ℕ) (bytes : List ℕ) (n : ℕ) → n ≡ min (length bytes) (capacity h.node - h.position)
      → files' ≡ replaced files h.node (overwritten (files h.node) h.position n bytes) → w ≡ moved at.number h (h.position + n) (held_of rows files' handles b)
      → Wrote (held_of rows files handles b) capacity at.number bytes h n w
  was_written w files' capacity bytes n count wrote e = record {
    node = node_of h.node o.node (files h.node);
    old = files h.node;
    there = there_node rows files h.node o.node o.there;
    content = ap (λ (t : Bool). cond t directory (file (files h.node))) kinded;
    counted = count;
    held = e ∙ ap (moved at.number h (h.position + n)) (ap (λ (fs : Files). held_of rows fs handles b) wrote ∙ changed_held rows files handles b h.node o.node _ o.there kinded);
  }
    where
      kinded : o.node.directory ≡ false
      kinded = o.kinded ∙ ap is_directory of_file

-- what went into a file, as the answer of a write that tells whether it was all
pub written : (v : Held) (capacity : ℕ → ℕ) (k j : ℕ) (bytes : List ℕ) (h : Handle) (n : ℕ) (a : Answer) (w : Held) → k ≡ j → Wrote v capacity k bytes h n w
    → (n ≡ length bytes × a ≡ accepted 0 []) ⊎ (n < length bytes × a ≡ refused volume_full n) → Written v capacity j bytes h a w
written v capacity k j bytes h n a w e p q =
    subst (λ (i : ℕ). Written v capacity i bytes h a w) e (record { node = p.node; old = p.old; there = p.there; content = p.content; count = n; counted = p.counted; held = p.held; answer = q })
