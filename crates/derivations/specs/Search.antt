-- The search over a calculus; and what is so of whatever it finds, and of whatever reasons make.
use Rattle.std.specs.Prelude.{ℕ, ◌≡◌, ◌<◌, Bool, false, List, Option, Some, None, slice_get, length, nat_lt}
use Rattle.derivations.specs.System.{System, search_of, IsFound}
use Rattle.trace_pairs.specs.Graph.{Node}
use Rattle.buchi_inclusion.specs.Decide.{progresses, number_of}
use Rattle.derivations.specs.Tableau.{Tableau, Calculus, replay}
use Rattle.derivations.specs.Room.{is_done, offered, fits_in, fits_short}
use Rattle.derivations.specs.Nodes.{IsSmall}

abbrev pub on_graph : {J R : Type 0} → (List Node → Bool) → Option (Tableau J R) → Bool
on_graph test None = false
on_graph test (Some t) = test t.graph

-- the search for a derivation of a judgement, of at most `limit` nodes, with at most `states` product states
abbrev pub system_of : {J R : Type 0} → Calculus J R → ℕ → ℕ → J → System R
system_of c limit states j = record {
  limit = limit;
  complete = λ d. is_done (replay c j d);
  candidates = λ d. offered c.links (replay c j d);
  rules = λ d. offered c.rules (replay c j d);
  fits = λ e d r. fits_in c limit e (length d) (replay c j d) r;
  admitted = λ d. on_graph progresses (replay c j d);
  above = λ d. on_graph (λ g. nat_lt states (number_of g)) (replay c j d);
  short = λ e d r. fits_short c limit e (length d) (replay c j d) r;
}

-- the derivation that a search finds for a judgement that may occur makes a tableau that P is true of
abbrev pub EachFound : {J R : Type 0} → Calculus J R → (J → Type 0) → (J → List R → Tableau J R → Type 0) → Type 0
EachFound {J} {R} c Occurs P =
    (limit states most depth : ℕ) (j : J) (d : List R) → Occurs j
    → search_of (system_of c limit states j) most depth ≡ IsFound d
    → (t : Tableau J R) × (replay c j d ≡ Some t) × P j d t

-- what a search finds for a judgement that may occur has no open goal, and no more than the search allows
abbrev pub EachIsSmall : {J R : Type 0} → Calculus J R → (J → Type 0) → Type 0
EachIsSmall {J} {R} c Occurs =
    (limit states most depth : ℕ) (j : J) (d : List R) (t : Tableau J R) → Occurs j
    → search_of (system_of c limit states j) most depth ≡ IsFound d → replay c j d ≡ Some t → IsSmall limit states t

-- what reasons that may be given make of a judgement that may occur, once a node is made, has property P
abbrev pub EachReplayed : {J R : Type 0} → Calculus J R → (J → Type 0) → (R → Type 0) → (Tableau J R → Type 0) → Type 0
EachReplayed {J} {R} c Occurs Allows P =
    (j : J) (d : List R) (t : Tableau J R) → Occurs j → ((k : ℕ) (r : R) → slice_get d k ≡ Some r → Allows r)
    → replay c j d ≡ Some t → 0 < length t.nodes → P t
