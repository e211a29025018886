use Rattle.std.proofs.Common.{Ok, rules}
use Rattle.uefi_path.specs.Errors.{path_error}
use Rattle.uefi_path.specs.Meaning.{units_of}
use Rattle.uefi_path.proofs.Lawful.{passes}
use Rattle.uefi_path.proofs.validation.validate_path.Goals as goal

pub returns-in_err-validate_component-clause-law : goal.returns-in_err-validate_component-clause-law
returns-in_err-validate_component-clause-law c = passes path_error c.from_residual.result (units_of c.args.path.now) (search rules)

pub returns-clause-law : goal.returns-clause-law
returns-clause-law c = passes path_error (Ok (tt {0})) (units_of c.args.path.now) (search rules)
