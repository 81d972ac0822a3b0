-- Premises as the program makes them, by a change.
use Rattle.std.specs.Prelude.{ℕ, List, map, length, ◌++◌, slice_set, ◌+◌, Bool, ◌&&◌, [], nat_le}
use Rattle.heap_formula.specs.Positions.{without}
use Rattle.fo_formula.specs.declared.atoms.FoAtom.{FoAtom}
use Rattle.fo_formula.specs.declared.sequents.FoSequent.{FoSequent}
use Rattle.fo_formula.specs.Words.{in_atom, Word}
use Rattle.fo_formula.specs.declared.table.premises.FoPremise.{FoPremise}
use Rattle.fo_formula.specs.Table.{with_left, with_right, case_body}
use Rattle.fo_formula.specs.Traces.{same_pairs, kept_pairs, child_pairs}
use Rattle.fo_rules.specs.declared.parts.changes.Change.{Change}
use Rattle.fo_rules.specs.Putting.{put}
use Rattle.std.specs.List.{list_all}
use Rattle.cyc_basics.specs.declared.limits.TheConstants.{MOST_TERMS}
use Rattle.fo_formula.specs.Sizes.{atom_size, atoms_size, sequent_size}
use Rattle.fo_rules.specs.Capping.{capped}

-- a changed atom in place of right atom j
abbrev pub right_by : FoSequent → ℕ → Change → FoAtom → FoPremise
right_by s j change x =
    record { sequent = with_right s (slice_set s.right j (in_atom (put change) x)); pairs = same_pairs s.left }

-- a changed case in place of left atom i
abbrev pub unfold_by : FoSequent → ℕ → Change → List FoAtom → FoPremise
unfold_by s i change case =
    record {
      sequent = with_left s (without i s.left ++ map (in_atom (put change)) case);
      pairs = kept_pairs i s.left ++ child_pairs i (length (without i s.left)) case;
    }

-- ---- whether premises have at most 4,096 terms

-- the terms of the atoms after a change
abbrev pub changed_size : Change → List FoAtom → ℕ
changed_size change xs = atoms_size (map (in_atom (put change)) xs)

-- the atom after a change, with so many others
abbrev pub atom_fits : ℕ → Change → FoAtom → Bool
atom_fits others change x = nat_le (others + atom_size (in_atom (put change) x)) MOST_TERMS

-- a case after a change, with so many others
abbrev pub case_fits : ℕ → Change → List FoAtom → Bool
case_fits others change case = nat_le (others + changed_size change case) MOST_TERMS

-- a case at these arguments, with the left atoms that are kept and the right ones
abbrev pub unfolded_fits : FoSequent → List FoAtom → List Word → List FoAtom → Bool
unfolded_fits s kept args case =
    nat_le ((capped (atoms_size kept) + capped (atoms_size s.right)) + atoms_size (case_body args [] case))
    MOST_TERMS

-- the sequent, and each of these cases
abbrev pub unfolding_fits : FoSequent → List FoAtom → List Word → List (List FoAtom) → Bool
unfolding_fits s kept args cases =
    nat_le (sequent_size s + 0) MOST_TERMS && list_all (unfolded_fits s kept args) cases
