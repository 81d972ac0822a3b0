use Rattle.std.proofs.Common.{◌≡◌, ◌+◌, ◌-◌, []}
use Rattle.derivations.specs.System.{search_of, search_from}
use Rattle.derivations.specs.Derivations.{IsInOrder, about, reasons_in, search_in}
use Rattle.derivations.proofs.found.searching.search_proof.Given as goal

abbrev pub invariant-loop-bound : goal.invariant-loop-bound
invariant-loop-bound g l =
    let s = search_in g.S.Rules.calculus l.fn.start in record {
      order : IsInOrder g.S.Rules.calculus g.S.Rules.occurs g.S.Rules.allows l.moves;
      nothing : reasons_in l.moves ≡ [];
      subject : about l.moves ≡ about l.fn.start;
      searched : search_from s l.most l.bound (l.depth + 1 - l.bound) ≡ search_of s l.most l.depth;
    }
