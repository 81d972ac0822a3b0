-- What a search finds is complete, has at most as many reasons as the limit, and is not above the number of states.
use Rattle.std.proofs.Common.{◌≡◌, ℕ, ◌≤◌, true, false, List, length, arith}
use Rattle.std.specs.Prelude.{nat_lt}
use Rattle.std.proofs.lemmas.Bool.{ltb-false}
use Rattle.trace_pairs.specs.Graph.{Node, IsGraph}
use Rattle.buchi_inclusion.specs.Answers.{HasAtMost}
use Rattle.buchi_inclusion.specs.Decide.{product_states, number_of}
use Rattle.buchi_inclusion.proofs.Number.{all_reached}
use Rattle.derivations.specs.System.{System, search_of, IsFound, after}
use Rattle.derivations.proofs.Members.{length-after}
use Rattle.derivations.proofs.Induction.{IsOffered, found_has}
use Rattle.derivations.proofs.Firsts.{first_found}

pub record IsEnd {R : Type 0} (s : System R) (d : List R) : Type 0 where
  pub short : length d ≤ s.limit
  pub complete : s.complete d ≡ true
  pub few : s.above d ≡ false

pub found_ends : {R : Type 0} (s : System R) (most depth : ℕ) (d : List R) → search_of s most depth ≡ IsFound d
    → IsEnd s d
found_ends {R} s most depth d h =
    let first = first_found s most 1 depth d h in
    let p = found_has s first.depth (λ x. length x ≤ s.limit) (λ x r old offer. longer first.depth x r offer)
    (omega arith) d first.first in
    record { short = p.0; complete = p.1; few = first.few }
  where
    longer : (e : ℕ) (x : List R) (r : R) → IsOffered s e x r → length (after x r) ≤ s.limit
    longer e x r offer = let less = s.short e x r offer.fits in omega (arith, less, length-after x r)

-- a graph whose number of product states is not above n
pub few_states : (g : List Node) (n : ℕ) → IsGraph g → nat_lt n (number_of g) ≡ false → HasAtMost g n
few_states g n is h = (product_states g, all_reached g is, ltb-false n (number_of g) h)
