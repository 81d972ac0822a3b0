-- Which names of a goal each node of a proof of it shows.
use Rattle.std.specs.Prelude.{ℕ, suc, Bool, true, false, ◌&&◌, ◌||◌, not, nat_eq, nat_lt, List, [], ◌∷◌, length}
use Rattle.std.specs.Prelude.{slice_get, slice_set, unwrap_or, if◌then◌else◌}
use Rattle.heap_formula.specs.declared.judgements.Judgement.{Judgement}
use Rattle.heap_formula.specs.declared.judgements.Judgement.TheVariants.{Entail, Term as Runs}
use Rattle.heap_formula.specs.Programs.{program_variables}
use Rattle.back_links.specs.Listing.{stands_in}
use Rattle.proof_file.specs.declared.file.ProofFile.{ProofFile}
use Rattle.proof_file.specs.FileNodes.{FileNode}
use Rattle.proof_picture.specs.Arrows.{Drawn, DrawnRow}
use Rattle.proof_picture.specs.Carried.{flags_to}
use Rattle.proof_picture.specs.Labels.{flags_at}

-- ---- at one node; a list has a flag for each name, by its number

abbrev pub flag : List Bool → ℕ → Bool
flag flags n = unwrap_or (slice_get flags n) false

-- wherever the program runs, the first p variables are its own: `$n` is the value of variable n there
abbrev pub is_program_variable : ℕ → Judgement → ℕ → Bool
is_program_variable p (Entail a bs) n = false
is_program_variable p (Runs i a) n = nat_lt n p

-- a name is shown where it came to the node and its variable stands in the judgement: a rule makes new variables with
-- numbers above all that stand there, so this number is still the same variable in the premises
abbrev pub is_kept : ℕ → List Bool → Judgement → ℕ → Bool
is_kept p came j n = is_program_variable p j n || (flag came n && stands_in n j)

-- of so many names
abbrev pub kept : ℕ → ℕ → List Bool → Judgement → List Bool
kept count p came j = flags_to (is_kept p came j) count

-- ---- from node to premise; a list without flags says that no way has come to the node

-- a name that came along one way has to come along the next too
abbrev pub both : ℕ → List Bool → List Bool → List Bool
both count [] new = new
both count (b ∷ bs) new = flags_to (λ n. flag (b ∷ bs) n && flag new n) count

-- these names come to node u
abbrev pub come : ℕ → List (List Bool) → ℕ → List Bool → List (List Bool)
come count ways u new = if nat_lt u (length ways) then slice_set ways u (both count (flags_at ways u) new) else ways

-- an edge of node v to a premise that its reason leaves, at a node after it
abbrev pub leads_on : ℕ → ℕ → Drawn → Bool
leads_on v premises a = not a.is_link && (nat_lt a.place premises && nat_lt v a.target)

abbrev pub come_along : ℕ → ℕ → ℕ → List Bool → List (List Bool) → Drawn → List (List Bool)
come_along count v premises new ways a = if leads_on v premises a then come count ways a.target new else ways

-- what node v shows comes to the nodes of its premises
abbrev pub come_all : ℕ → ℕ → ℕ → List Bool → List (List Bool) → List Drawn → List (List Bool)
come_all count v premises new ways [] = ways
come_all count v premises new ways (a ∷ others) = come_all count v premises new (come_along count v premises new ways a)
    others

-- node 0 has all names, and none came to the others yet
abbrev pub first_ways : ℕ → ℕ → List FileNode → List (List Bool)
first_ways count v [] = []
first_ways count v (n ∷ ns) = (if nat_eq v 0 then flags_to (λ k. true) count else []) ∷ first_ways count (suc v) ns

-- what the nodes from v on show
abbrev pub kept_from : ℕ → ℕ → List (List Bool) → ℕ → List FileNode → List DrawnRow → List (List Bool)
kept_from count p ways v [] rows = []
kept_from count p ways v (n ∷ ns) [] = []
kept_from count p ways v (n ∷ ns) (row ∷ rows) =
    let new = kept count p (flags_at ways v) n.judgement in
    new ∷ kept_from count p (come_all count v row.premises new ways row.arrows) (suc v) ns rows

-- what each node of a file with these edges shows, of so many names
abbrev pub kept_names : ℕ → ProofFile → List DrawnRow → List (List Bool)
kept_names count f rows = kept_from count (program_variables f.program) (first_ways count 0 f.nodes) 0 f.nodes rows
