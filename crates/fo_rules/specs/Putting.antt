-- What a change puts in the place of signs.
use Rattle.fo_formula.specs.declared.terms.Sign.{Sign}
use Rattle.fo_formula.specs.declared.terms.Sign.TheVariants.{Universal, Local, Constructor}
use Rattle.fo_formula.specs.Words.{Word}
use Rattle.fo_formula.specs.Values.{sign_value}
use Rattle.fo_formula.specs.Table.{image_sign}
use Rattle.fo_rules.specs.declared.parts.changes.Change.{Change}
use Rattle.fo_rules.specs.declared.parts.changes.Change.TheVariants.{Instance, Substitution}

-- the word in a sign's place
abbrev pub put : Change → Sign → Word
put (Instance args locals) s = sign_value args locals s
put (Substitution pairs) s = image_sign pairs s

-- the sign that stands there where no term does
abbrev pub lone : Change → Sign → Sign
lone (Instance args locals) (Universal n) = Constructor 0 0
lone (Instance args locals) (Local n) = Constructor 0 0
lone (Instance args locals) (Constructor c k) = Constructor c k
lone (Substitution pairs) s = s
