-- Stages one behind the other.
use Rattle.std.proofs.Common.{◌≡◌, ◌↔◌, ℕ, suc, ◌+◌, ◌≤◌, List, [], ◌∷◌, ◌++◌, take, length, arith, sym, refl, ap}
use Rattle.std.proofs.Common.{◌∙◌, subst, inl, inr}
use Rattle.std.proofs.lemmas.List.{append-nil, length-append, take-append-le}
use Rattle.heap_formula.specs.declared.atoms.Spatial.{Spatial}
use Rattle.heap_formula.specs.declared.atoms.Spatial.TheVariants.{Cell, Pred}
use Rattle.pair_family.specs.Folding.{spoken}
use Rattle.heap_formula.specs.Words.{Each}
use Rattle.pair_family.specs.BasePairs.{BasePair}
use Rattle.pair_family.specs.Frames.{kept_terms, frames_of}
use Rattle.pair_family.specs.Labels.{Extends, Grows, HasRoom}
use Rattle.pair_family.specs.LargeCases.{HasMore, sizes}
use Rattle.pair_family.specs.Reordering.{families_of}
use Rattle.pair_family.specs.States.{AreStates, Leads}
use Rattle.pair_family.specs.Tables.{Table}
use Rattle.pair_family.specs.Within.{IsWithin}
use Rattle.heap_formula.specs.Words.{OneOf}
use Rattle.cyc_basics.specs.Words.{IsMember}
use Rattle.sat_pairs.specs.declared.stages.Stage.{Stage}
use Rattle.sat_pairs.specs.CaseStates.{PassesFrom}
use Rattle.sat_pairs.specs.Growth.{IsGrown}
use Rattle.sat_pairs.specs.Numbers.{cell_pair_alone, kept_numbers, places_in}
use Rattle.sat_pairs.specs.Atoms.{atom_pairs, lists_of}
use Rattle.sat_pairs.specs.Stages.{AreFresh, AreStages, GivesAt, IsAlike, IsAt, IsFresh, IsFull, IsStage, IsTaken}
use Rattle.sat_pairs.specs.Stages.{atoms_of, outcome, pairs_at}
use Rattle.sat_pairs.proofs.AtomLists.{atom_cell}
use Rattle.sat_pairs.proofs.Reached.{passes_here, passes_later, passes_none, passes_nowhere}
use Rattle.sat_pairs.proofs.Staged.{stage_many, stage_steps}
use Rattle.sat_pairs.proofs.Steps.{Stepped, HasCellPair, of_list, fold_within, leads, many_led}

-- ---- one stage, and those behind it

alike_at : (k : ℕ) (rest : List Spatial) (s t : Stage) → IsAlike s t → IsAt k rest s → IsAt k rest t
alike_at k rest s t a at = record {
  numbers = subst (λ x. t.numbers.items ≡ kept_numbers k (x ∷ rest)) (sym a.atom) (a.numbers ∙ at.numbers);
  places = subst (λ x. t.places.items ≡ places_in (kept_numbers k (x ∷ rest)) (spoken x)) (sym a.atom)
      (a.places ∙ at.places);
  kept = a.kept ∙ at.kept;
}

-- with other states before that begin with those
taken_longer : (pairs before now : List BasePair) (s : Stage) → IsTaken pairs before (length before) s
    → Extends before now → IsTaken pairs now (length before) s
taken_longer pairs before now s t e = record {
  few = t.few;
  given = subst (λ z. Grows [] s.states.keys (GivesAt s z (take s.taken pairs)))
      (sym (ap (take (length before)) e.1 ∙ take-append-le (length before) before e.0 (omega arith))) t.given;
}

module _ (most k : ℕ) (table : Table) (cell : List BasePair) where
  pub stages_longer : (before now : List BasePair) (ss : List Stage) → Extends before now
      → AreStages most table cell k before (length before) ss → AreStages most table cell k now (length before) ss
  stages_longer before now [] e a = tt
  stages_longer before now (s ∷ ss) e a = (
    record {
      at = a.0.at;
      taken = taken_longer (pairs_at table cell s) before now s a.0.taken e;
      room = a.0.room;
    },
    a.1,
  )

  module _ (cells : cell ≡ cell_pair_alone) (before : List BasePair) (s : Stage) (rest : List Spatial)
      (at : IsAt k rest s) (within : Each (IsWithin (suc (length (kept_terms k (s.atom ∷ rest))))) before) where
    abbrev pairs : List BasePair
    pairs = pairs_at table cell s

    has : HasCellPair s.atom pairs
    has = atom_cell table cell s.atom cells

    pub stage_passes : (most' : ℕ) (lists : List (List BasePair)) → HasMore most' (GivesAt s before pairs)
        → PassesFrom most' (families_of (pairs ∷ lists)) (frames_of k (s.atom ∷ rest)) before (s.atom ∷ rest)
    stage_passes most' lists h = passes_here most' (families_of (pairs ∷ lists)) (frames_of k (s.atom ∷ rest)) before
        s.atom rest (many_led most' k s.atom rest pairs before has within (stage_many k rest s at before pairs most' h))

    module _ (taken : IsTaken pairs before (length before) s) (full : s.taken ≡ length pairs) where
      stepped : Stepped s.atom (kept_numbers k (s.atom ∷ rest)) (length (kept_numbers k rest)) pairs before
          s.states.keys
      stepped = stage_steps k rest s at before pairs taken full

      pub stage_leads : (d : BasePair) → IsMember d s.states.keys ↔ OneOf (Leads (of_list pairs)
          (frames_of k (s.atom ∷ rest) 0) (frames_of k (s.atom ∷ rest) 1) s.atom d) before
      stage_leads = leads k s.atom rest pairs before s.states.keys has within stepped

      pub stage_within : Each (IsWithin (suc (length (kept_terms k rest)))) s.states.keys
      stage_within = fold_within k s.atom rest pairs before s.states.keys has within stepped

      pub stage_later : (most' : ℕ) (lists : List (List BasePair))
          → PassesFrom most' (families_of lists) (frames_of k rest) s.states.keys rest
          → PassesFrom most' (families_of (pairs ∷ lists)) (frames_of k (s.atom ∷ rest)) before (s.atom ∷ rest)
      stage_later most' lists p = passes_later most' (families_of (pairs ∷ lists)) (frames_of k (s.atom ∷ rest)) before
          s.atom rest s.states.keys stage_leads p

      pub stage_nowhere : (most' : ℕ) (lists : List (List BasePair)) → sizes before ≤ most'
          → ¬ PassesFrom most' (families_of lists) (frames_of k rest) s.states.keys rest
          → ¬ PassesFrom most' (families_of (pairs ∷ lists)) (frames_of k (s.atom ∷ rest)) before (s.atom ∷ rest)
      stage_nowhere most' lists few n = passes_nowhere most' (families_of (pairs ∷ lists))
          (frames_of k (s.atom ∷ rest)) before s.atom rest s.states.keys stage_leads few n

  -- ---- stages that have taken in all

  pub stages_states : cell ≡ cell_pair_alone → (before : List BasePair) (ss : List Stage)
      → Each (IsWithin (suc (length (kept_terms k (atoms_of ss))))) before
      → AreStages most table cell k before (length before) ss → IsFull table cell ss
      → AreStates (families_of (lists_of table cell (atoms_of ss))) (frames_of k (atoms_of ss)) before
      (atoms_of ss) (outcome before ss)
  stages_states cells before [] w a f = λ d. (λ m. m, λ m. m)
  stages_states cells before (s ∷ ss) w a f =
      let rest = atoms_of ss in (
        s.states.keys,
        stage_leads cells before s rest a.0.at w a.0.taken f.0,
        stages_states cells s.states.keys ss (stage_within cells before s rest a.0.at w a.0.taken f.0) a.1 f.1,
      )

  pub stages_few : cell ≡ cell_pair_alone → (before : List BasePair) (ss : List Stage)
      → Each (IsWithin (suc (length (kept_terms k (atoms_of ss))))) before → sizes before ≤ most
      → AreStages most table cell k before (length before) ss → IsFull table cell ss
      → ¬ PassesFrom most (families_of (lists_of table cell (atoms_of ss))) (frames_of k (atoms_of ss))
      before (atoms_of ss)
  stages_few cells before [] w few a f = passes_none most (families_of []) (frames_of k []) before few
  stages_few cells before (s ∷ ss) w few a f =
      let rest = atoms_of ss in
      let r = a.0.room.room in
      stage_nowhere cells before s rest a.0.at w a.0.taken f.0 most (lists_of table cell (atoms_of ss)) few
      (stages_few cells s.states.keys ss (stage_within cells before s rest a.0.at w a.0.taken f.0) (omega arith)
      a.1 f.1)

-- ---- the first stage, and then the others

module _ (most k : ℕ) (table : Table) (cell before : List BasePair) (done : ℕ) (all : List Stage) (s : Stage)
    (rest : List Stage) (e : all ≡ s ∷ rest) (cells : cell ≡ cell_pair_alone)
    (within : Each (IsWithin (suc (length (kept_terms k (atoms_of all))))) before)
    (are : AreStages most table cell k before done all) (pairs : List BasePair)
    (pairs_are : pairs ≡ atom_pairs table cell s.atom) where
  abbrev others : List Spatial
  others = atoms_of rest

  both_are : AreStages most table cell k before done (s ∷ rest)
  both_are = subst (AreStages most table cell k before done) e are

  both_within : Each (IsWithin (suc (length (kept_terms k (s.atom ∷ others))))) before
  both_within = subst (λ z. Each (IsWithin (suc (length (kept_terms k (atoms_of z))))) before) e within

  abbrev Passes' : List Stage → Type 0
  Passes' z = PassesFrom most (families_of (lists_of table cell (atoms_of z))) (frames_of k (atoms_of z))
      before (atoms_of z)

  -- the states of the first stage are too many
  pub first_passes : HasMore (s.room + sizes s.states.keys) (GivesAt s before pairs) → Passes' all
  first_passes h =
      let h' = subst (λ n. HasMore n (GivesAt s before pairs)) both_are.0.room.room h in
      let h'' = subst (λ z. HasMore most (GivesAt s before z)) pairs_are h' in
      subst Passes' (sym e) (stage_passes most k table cell cells before s others both_are.0.at both_within most
      (lists_of table cell (atoms_of rest)) h'')

  module _ (t : Stage) (same : IsAlike s t) (longer : Extends s.states.keys t.states.keys)
      (taken : IsTaken pairs before (length before) t) (full : t.taken ≡ length pairs) where
    t_pairs : pairs ≡ pairs_at table cell t
    t_pairs = pairs_are ∙ ap (λ x. atom_pairs table cell x) (sym same.atom)

    t_at : IsAt k others t
    t_at = alike_at k others s t same both_are.0.at

    t_within : Each (IsWithin (suc (length (kept_terms k (t.atom ∷ others))))) before
    t_within = subst (λ x. Each (IsWithin (suc (length (kept_terms k (x ∷ others))))) before) (sym same.atom)
        both_within

    t_taken : IsTaken (pairs_at table cell t) before (length before) t
    t_taken = subst (λ z. IsTaken z before (length before) t) t_pairs taken

    t_full : t.taken ≡ length (pairs_at table cell t)
    t_full = full ∙ ap length t_pairs

    pub next_within : Each (IsWithin (suc (length (kept_terms k others)))) t.states.keys
    next_within = stage_within most k table cell cells before t others t_at t_within t_taken t_full

    pub next_done : length s.states.keys ≤ length t.states.keys
    next_done = let l = ap length longer.1 ∙ length-append s.states.keys longer.0 in omega arith

    pub next_stages : AreStages most table cell k t.states.keys (length s.states.keys) rest
    next_stages = stages_longer most k table cell s.states.keys t.states.keys rest longer both_are.1

    pub next_passes : PassesFrom most (families_of (lists_of table cell (atoms_of rest))) (frames_of k others)
        t.states.keys others → Passes' all
    next_passes p =
        let q = stage_later most k table cell cells before t others t_at t_within t_taken t_full most
        (lists_of table cell (atoms_of rest)) p in
        subst Passes' (sym e) (subst (λ x. PassesFrom most
        (families_of (atom_pairs table cell x ∷ lists_of table cell (atoms_of rest))) (frames_of k (x ∷ others))
        before (x ∷ others)) same.atom q)

-- ---- stages that have taken in nothing

taken_none : (pairs before : List BasePair) (s : Stage) → s.taken ≡ 0 → s.states.keys ≡ [] → IsTaken pairs before 0 s
taken_none pairs before s e k = record {
  few = omega arith;
  given = subst (λ z. Grows [] z (GivesAt s [] (take s.taken pairs))) (sym k) (λ d. (
    (λ m. absurd m),
    λ o. elim o [ inl no' ↦ no' | inr no' ↦ no' ],
  ));
}

fresh_stage : (most k : ℕ) (x : Spatial) (rest : List Spatial) (pairs before : List BasePair) (s : Stage)
    → IsFresh most k x rest s → IsStage most k rest pairs before 0 s
fresh_stage most k x rest pairs before s f = record {
  at = f.at;
  taken = taken_none pairs before s f.taken f.states;
  room = subst (λ z. HasRoom most z s.room) (sym f.states) (record {
    distinct = tt;
    room = let r = f.room in let z : sizes [] ≡ 0 = refl in omega arith;
  });
}

pub fresh_atoms : (most k : ℕ) (xs : List Spatial) (ss : List Stage) → AreFresh most k xs ss
    → atoms_of ss ≡ xs
fresh_atoms most k [] ss f = ap (λ z. atoms_of z) f
fresh_atoms most k (x ∷ xs) [] f = absurd f
fresh_atoms most k (x ∷ xs) (s ∷ ss) f = λ i. f.0.atom i ∷ fresh_atoms most k xs ss f.1 i

pub fresh_stages : (most k : ℕ) (table : Table) (cell before : List BasePair) (xs : List Spatial) (ss : List Stage)
    → AreFresh most k xs ss → AreStages most table cell k before 0 ss
fresh_stages most k table cell before [] ss f = subst (AreStages most table cell k before 0) (sym f) tt
fresh_stages most k table cell before (x ∷ xs) [] f = absurd f
fresh_stages most k table cell before (x ∷ xs) (s ∷ ss) f =
    let rest = subst (λ z. IsFresh most k x z s) (sym (fresh_atoms most k xs ss f.1)) f.0 in (
      fresh_stage most k x (atoms_of ss) (pairs_at table cell s) before s rest,
      subst (λ n. AreStages most table cell k s.states.keys n ss) (sym (ap length f.0.states))
          (fresh_stages most k table cell s.states.keys xs ss f.1),
    )

-- ---- a greater table

taken_more : (old new before : List BasePair) (done : ℕ) (s : Stage) (rest : List BasePair) → new ≡ old ++ rest
    → IsTaken old before done s → IsTaken new before done s
taken_more old new before done s rest e t = record {
  few = let f = t.few in let l = ap length e ∙ length-append old rest in omega arith;
  given = subst (λ z. Grows [] s.states.keys (GivesAt s (take done before) z))
      (sym (ap (take s.taken) e ∙ take-append-le s.taken old rest t.few)) t.given;
}

pairs_more : (A B : Table) (cell : List BasePair) (x : Spatial) → IsGrown A B
    → (rest : List BasePair) × (atom_pairs B cell x ≡ atom_pairs A cell x ++ rest)
pairs_more A B cell (Cell t ts) g = ([], sym (append-nil cell))
pairs_more A B cell (Pred p ts) g = g.extends p

pub stages_grown : (most k : ℕ) (A B : Table) (cell before : List BasePair) (done : ℕ) (ss : List Stage) → IsGrown A B
    → AreStages most A cell k before done ss → AreStages most B cell k before done ss
stages_grown most k A B cell before done [] g a = tt
stages_grown most k A B cell before done (s ∷ ss) g a =
    let m = pairs_more A B cell s.atom g in (
      record {
        at = a.0.at;
        taken = taken_more (pairs_at A cell s) (pairs_at B cell s) before done s m.0 m.1 a.0.taken;
        room = a.0.room;
      },
      stages_grown most k A B cell s.states.keys (length s.states.keys) ss g a.1,
    )
