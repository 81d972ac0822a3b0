use Rattle.std.proofs.Common.{◌≡◌, drop}
use Rattle.std.specs.List.{list_all}
use Rattle.back_links.specs.Prospects.{has_cover}
use Rattle.back_links.proofs.prospects.have_covers.Given as goal

abbrev pub invariant-loop-c : goal.invariant-loop-c
invariant-loop-c l = list_all (has_cover l.disjuncts l.subst) (drop l.c-index l.cs)
    ≡ list_all (has_cover l.disjuncts l.subst) l.cs
