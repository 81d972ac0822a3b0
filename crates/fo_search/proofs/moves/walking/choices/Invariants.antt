use Rattle.std.proofs.Common.{◌≡◌, ◌≤◌, ◌-◌, ◌++◌, vec_len}
use Rattle.std.specs.List.{filter}
use Rattle.fo_search.specs.Subterms.{lists_of}
use Rattle.fo_search.specs.Choosing.{does}
use Rattle.fo_search.specs.Walks.{choices_left}
use Rattle.fo_search.proofs.moves.walking.choices.Given as goal

abbrev pub invariant-loop-alloc : goal.invariant-loop-alloc
invariant-loop-alloc l = record {
  few : vec_len l.found ≤ l.most;
  whole : l.found.items ++ choices_left (does l.search.wanted) l.search.values.now l.walk
      ≡ filter (does l.search.wanted) (lists_of l.count l.search.values.now);
}

abbrev pub decreases-loop-alloc : goal.decreases-loop-alloc
decreases-loop-alloc l = l.most - vec_len l.found
