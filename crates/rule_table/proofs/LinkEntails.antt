-- A link between two entailments is sound.
use Rattle.std.proofs.Common.{◌≡◌, ℕ, ◌+◌, ◌≤◌, true, List, [], ◌∷◌, length, refl, sym, ap, ◌∙◌, subst, arith, inl, inr}
use Rattle.std.proofs.Common.{map}
use Rattle.std.proofs.Math.ListN.{get_or}
use Rattle.std.proofs.lemmas.List.{length-map}
use Rattle.heap_formula.specs.declared.terms.Term.{Term}
use Rattle.heap_formula.specs.declared.terms.Term.TheVariants.{Nil, Univ, Exist}
use Rattle.heap_formula.specs.declared.commands.Command.{Command}
use Rattle.heap_formula.specs.declared.judgements.Judgement.TheVariants.{Entail}
use Rattle.heap_formula.specs.Symbolic.{SymbolicHeap}
use Rattle.heap_formula.specs.Definitions.{Definition}
use Rattle.heap_formula.specs.Words.{Each, OneOf, max_of}
use Rattle.heap_formula.specs.Values.{Stack, value}
use Rattle.heap_formula.specs.Cells.{Cells, no_cells, IsUnion, Star}
use Rattle.heap_formula.specs.Meaning.{SpatialHolds, Holds, at_stage, Satisfies, SatisfiesOne}
use Rattle.heap_formula.specs.Judgements.{Follows, IsLocallySound}
use Rattle.heap_formula.specs.Positions.{chosen}
use Rattle.heap_formula.specs.Closedness.{IsUniversal}
use Rattle.heap_formula.specs.Substitution.{Bindings, image, apply_term, apply_pure, apply_spatial, apply_heap}
use Rattle.heap_formula.specs.Fresh.{heap_bound}
use Rattle.rule_table.specs.RuleLink.{FollowsFrom, MapsInto, mapped_stages, DisjunctsCover}
use Rattle.heap_formula.proofs.Unions.{union_comm, empty_union_same}
use Rattle.rule_table.proofs.Substitutes.{holds_same, along, back_along}
use Rattle.rule_table.proofs.Agreement.{IsBelow, heap_below}
use Rattle.rule_table.proofs.Frames.{value_universal}
use Rattle.rule_table.proofs.Appends.{pairs_follow_if}
use Rattle.rule_table.proofs.Links.{mapped_hold, Chosen, left_over, length_left, none_left}
use Rattle.rule_table.proofs.LinkRuns.{nothing_over, image_stack, image_value, all_chosen, all_places, each_follows, map_length}
use Rattle.rule_table.proofs.LinkRuns.{mapped-at, link_pairs}
use Rattle.cyc_basics.proofs.Places.{tabulated-at}
use Rattle.rule_table.proofs.Multisets.{covered_holds}
use Rattle.heap_formula.proofs.SomeMember.{one_at}

-- the substitution's value does not depend on the existential stack
other_value : (ps : Bindings) (s e f : Stack) (n : ℕ) → ((v : ℕ) → IsUniversal (image ps v)) → (t : Term) → IsBelow n t
    → value s f (apply_term ps t) ≡ value (image_stack ps s e n) f t
other_value ps s e f n universal Nil q = refl
other_value ps s e f n universal (Exist j) q = refl
other_value ps s e f n universal (Univ i) q =
    value_universal s f e (image ps i) (universal i)
    ∙ sym (tabulated-at (λ v. value s e (image ps v)) n i (omega arith))

module _ (ds : List Definition) (ps : Bindings) (s e : Stack) (n : ℕ) (universal : (v : ℕ) → IsUniversal (image ps v))
    (h : Cells) (bs : List SymbolicHeap) where
  one_covers : (ks : List ℕ) (cs : List SymbolicHeap) → max_of (map heap_bound cs) ≤ n
      → DisjunctsCover bs ks (map (apply_heap ps) cs) → OneOf (Satisfies ds (image_stack ps s e n) h) cs
      → SatisfiesOne ds s h bs
  one_covers [] [] le d o = absurd o
  one_covers [] (c ∷ cs) le d o = absurd d
  one_covers (k ∷ ks) [] le d o = absurd o
  one_covers (k ∷ ks) (c ∷ cs) le d (inr o) = one_covers ks cs (omega arith) d.3 o
  one_covers (k ∷ ks) (c ∷ cs) le d (inl t) =
      let f = t.1.0 in
      let moved : Holds (λ m. at_stage ds (t.0 m)) s f (apply_heap ps c) h =
      back_along (holds_same (IsBelow n) (apply_term ps) s f (image_stack ps s e n) f (other_value ps s e f n universal)
      (λ m. at_stage ds (t.0 m)) c (heap_below n c (omega arith)) h) t.1.1 in
      one_at (Satisfies ds s h) bs k d.0 d.1 (covered_holds ds s h d.0 (apply_heap ps c) d.2 (t.0, (f, moved)))

pub link_entails_sound : (ds : List Definition) (lines : List Command) (a a' : SymbolicHeap) (bs cs : List SymbolicHeap)
    (ps : Bindings) (ms ks : List ℕ) (n : ℕ) → heap_bound a' ≤ n → max_of (map heap_bound cs) ≤ n
    → ((v : ℕ) → IsUniversal (image ps v)) → Each (FollowsFrom a.pure) (map (apply_pure ps) a'.pure)
    → MapsInto a.pure a.spatial (λ _. true) ms (map (apply_spatial ps) a'.spatial)
    → length a.spatial ≤ length a'.spatial → DisjunctsCover bs ks (map (apply_heap ps) cs)
    → IsLocallySound ds lines (Entail a bs) (record { judgement = Entail a' cs; pairs = link_pairs ms a'.spatial } ∷ [])
link_entails_sound ds lines a a' bs cs ps ms ks n below cs_below universal follow maps all_taken cover stages premises s
    h o =
    one_covers ds ps s e n universal h bs ks cs cs_below cover
    (premises.0 (mapped_stages ms stages) follows s' h (e, moved))
  where
    e : Stack
    e = o.0

    s' : Stack
    s' = image_stack ps s o.0 n

    taken : Star (SpatialHolds (λ k. at_stage ds (mapped_stages ms stages k)) s o.0 (map (apply_spatial ps) a'.spatial))
        (Chosen (at_stage ds) s o.0 (left_over ms (λ _. true)) a.spatial stages) h
    taken = mapped_hold (at_stage ds) s o.0 a.pure o.1.0 a.spatial ms (map (apply_spatial ps) a'.spatial) (λ _. true)
        stages h maps (back_along (λ i. SpatialHolds (λ k. at_stage ds (stages (all_places a.spatial k i))) s o.0
        (all_chosen a.spatial i) h) o.1.1)

    nothing : taken.rest ≡ no_cells
    nothing = nothing_over (at_stage ds) s o.0 a.pure a.spatial ms (map (apply_spatial ps) a'.spatial) stages taken.rest
        maps (let l = length-map a'.spatial (apply_spatial ps) in omega arith) taken.others

    whole : taken.part ≡ h
    whole = empty_union_same (subst (λ g. IsUnion g taken.part h) nothing (union_comm taken.union))

    moved : Holds (λ k. at_stage ds (mapped_stages ms stages k)) s' o.0 a' h
    moved =
        along (holds_same (IsBelow n) (apply_term ps) s o.0 s' o.0 (image_value ps s o.0 n)
        (λ k. at_stage ds (mapped_stages ms stages k)) a' (heap_below n a' below) h) (
          each_follows a.pure s o.0 o.1.0 _ follow,
          subst
              (λ g. SpatialHolds (λ k. at_stage ds (mapped_stages ms stages k)) s o.0 (map (apply_spatial ps) a'.spatial)
              g) whole taken.first,
        )

    follows : Follows (link_pairs ms a'.spatial) stages (mapped_stages ms stages)
    follows =
        pairs_follow_if (λ k. get_or ms k 0) stages (mapped_stages ms stages) 0 a'.spatial
        (λ i lt. let z : 0 + i ≡ i = omega arith in subst (λ q. mapped_stages ms stages q ≤ stages (get_or ms q 0))
        (sym z) (let l = map_length a.pure a.spatial (λ _. true) ms _ maps in
        let l' = length-map a'.spatial (apply_spatial ps) in let v = mapped-at ms stages i (omega arith) in
        omega arith))
