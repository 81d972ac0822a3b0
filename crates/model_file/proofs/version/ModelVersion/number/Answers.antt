use Rattle.std.proofs.Common.{refl}
use Rattle.std.specs.Fmt.{digits}
use Rattle.model_file.proofs.version.ModelVersion.number.Goals as goal

pub returns-in-One : goal.returns-in-One
unfolding digits
returns-in-One c = rw (c.in-One.is) refl

pub returns-in-Three : goal.returns-in-Three
unfolding digits
returns-in-Three c = rw (c.in-Three.is) refl
