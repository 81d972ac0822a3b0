use Rattle.std.proofs.Common.{◌≡◌, rules}
use Rattle.fo_formula.specs.Equality.{word_eq}
use Rattle.fo_formula.proofs.Equal.{word_eq-Decides}
use Rattle.fo_formula.proofs.terms.TermPartialEq.eq.Goals as goal

pub returns-clause-exact : goal.returns-clause-exact
returns-clause-exact c =
    let v : c.eq.result ≡ word_eq c.args.self.now c.args.other.now = search rules in
    rw v (word_eq-Decides c.args.self.now c.args.other.now)
