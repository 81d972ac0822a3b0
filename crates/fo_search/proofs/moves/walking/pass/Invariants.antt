use Rattle.std.proofs.Common.{◌≡◌, List, Bool, false, length, reverse, vec_len}
use Rattle.fo_formula.specs.Words.{Word}
use Rattle.fo_search.specs.Walks.{done_behind, nodes_behind}
use Rattle.fo_search.proofs.moves.walking.pass.Given as goal

abbrev pub invariant-loop-walk : goal.invariant-loop-walk
invariant-loop-walk l = record {
  going : l.walk.is_over ≡ false;
  count : l.walk.count ≡ l.initial.walk.count;
  behind : (test : List Word → Bool) (vs : List Word) → length vs ≡ l.values →
      done_behind test vs l.initial.walk.count (reverse l.walk.places.items)
      ≡ done_behind test vs l.initial.walk.count (reverse l.initial.walk.places.items);
  nodes : nodes_behind l.values l.initial.walk.count (reverse l.walk.places.items)
      ≡ nodes_behind l.values l.initial.walk.count (reverse l.initial.walk.places.items);
}

abbrev pub decreases-loop-walk : goal.decreases-loop-walk
decreases-loop-walk l = vec_len l.walk.places
