use Rattle.std.proofs.Common.{◌≡◌, rules}
use Rattle.std.specs.Cmp.Lexicographic.{pointwise}
use Rattle.fo_formula.specs.Equality.{word_eq}
use Rattle.fo_formula.proofs.Equal.{words_eq-Decides}
use Rattle.fo_formula.proofs.terms.TermsPartialEq.eq.Goals as goal

pub returns-clause-exact : goal.returns-clause-exact
returns-clause-exact c =
    let v : c.eq.result ≡ pointwise word_eq c.args.self.now c.args.other.now = search rules in
    rw v (words_eq-Decides c.args.self.now c.args.other.now)
