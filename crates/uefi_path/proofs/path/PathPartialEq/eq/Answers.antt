use Rattle.uefi_path.specs.Meaning.{units_of}
use Rattle.uefi_path.proofs.Alike.{decided_same}
use Rattle.uefi_path.proofs.Lawful.{sameness}
use Rattle.uefi_path.proofs.path.PathPartialEq.eq.Goals as goal

pub returns : goal.returns
returns c = record {
  answer = decided_same _ _ _ c.is_same.ensures (sameness.decided (units_of c.args.self.now) (units_of c.args.other.now));
  value = c.is_same.ensures;
  law = sameness;
}
