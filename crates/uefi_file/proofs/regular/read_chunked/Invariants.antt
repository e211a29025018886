use Rattle.uefi_file.proofs.Turning.{Turned}
use Rattle.uefi_file.proofs.regular.read_chunked.Given as goal

abbrev pub invariant-loop-start : goal.invariant-loop-start
invariant-loop-start g l = Turned l.number l.initial.buffer l.buffer l.start (g.V.Volume.meaning l.initial.v) (g.V.Volume.meaning l.v)
