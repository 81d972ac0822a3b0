-- The order of the atoms does not matter.
use Rattle.std.proofs.Common.{◌≡◌, ◌↔◌, ℕ, List, [], ◌∷◌, ◌++◌, map, sym, refl, subst, ◌∙◌}
use Rattle.heap_formula.specs.declared.atoms.Pure.{Pure}
use Rattle.heap_formula.specs.declared.atoms.Spatial.{Spatial}
use Rattle.pair_family.specs.BasePairs.{BasePair, parameter}
use Rattle.pair_family.specs.Combination.{Choice, next, both, pure_facts, atom_facts, list_facts, AreConsistent}
use Rattle.pair_family.specs.Combination.{said}
use Rattle.pair_family.specs.States.{IsChosenBy, GivesBy}
use Rattle.pair_family.specs.Reordering.{Reorders, families_of}
use Rattle.pair_family.proofs.Complete.{cons_choice}
use Rattle.pair_family.proofs.Alike.{AreAlike, alike_self, alike_then, alike_second, alike_front, alike_consistent}
use Rattle.pair_family.proofs.Alike.{alike_said}

module _ (list : Spatial → List BasePair) where
  abbrev IsChosen : Choice → List Spatial → Type 0
  IsChosen bs xs = IsChosenBy (families_of (map list xs)) bs xs

  front_out : (us vs : List Spatial) (x : Spatial) (bs : Choice) → IsChosen bs (us ++ (x ∷ vs))
      → (cs : Choice) × IsChosen cs (x ∷ (us ++ vs))
      × AreAlike (list_facts bs (us ++ (x ∷ vs))) (list_facts cs (x ∷ (us ++ vs)))
  front_out [] vs x bs c = (bs, c, alike_self (list_facts bs (x ∷ vs)))
  front_out (u ∷ us) vs x bs c =
      let r = front_out us vs x (next bs) c.1 in
      let cs = cons_choice (r.0 0) (cons_choice (bs 0) (next r.0)) in
      let one = atom_facts (bs 0) u in
      let more = list_facts (next r.0) (us ++ vs) in (
        cs,
        (r.1.0, (c.0, r.1.1)),
        alike_then (list_facts bs (u ∷ (us ++ (x ∷ vs)))) (both one (list_facts r.0 (x ∷ (us ++ vs))))
            (list_facts cs (x ∷ (u ∷ (us ++ vs)))) (alike_second one (list_facts (next bs) (us ++ (x ∷ vs)))
            (list_facts r.0 (x ∷ (us ++ vs))) r.2) (alike_front one (atom_facts (r.0 0) x) more),
      )

  front_in : (us vs : List Spatial) (x : Spatial) (cs : Choice) → IsChosen cs (x ∷ (us ++ vs))
      → (bs : Choice) × IsChosen bs (us ++ (x ∷ vs))
      × AreAlike (list_facts cs (x ∷ (us ++ vs))) (list_facts bs (us ++ (x ∷ vs)))
  front_in [] vs x cs c = (cs, c, alike_self (list_facts cs (x ∷ vs)))
  front_in (u ∷ us) vs x cs c =
      let ds = cons_choice (cs 0) (next (next cs)) in
      let r = front_in us vs x ds (c.0, c.1.1) in
      let one = atom_facts (cs 1) u in
      let bs = cons_choice (cs 1) r.0 in (
        bs,
        (c.1.0, r.1),
        alike_then (list_facts cs (x ∷ (u ∷ (us ++ vs)))) (both one (list_facts ds (x ∷ (us ++ vs))))
            (list_facts bs (u ∷ (us ++ (x ∷ vs)))) (alike_front (atom_facts (cs 0) x) one
            (list_facts (next (next cs)) (us ++ vs))) (alike_second one (list_facts ds (x ∷ (us ++ vs)))
            (list_facts r.0 (us ++ (x ∷ vs))) r.2),
      )

  reorder_to : (xs ys : List Spatial) → Reorders xs ys → (bs : Choice) → IsChosen bs ys
      → (cs : Choice) × IsChosen cs xs × AreAlike (list_facts bs ys) (list_facts cs xs)
  reorder_to [] ys e bs c =
      let P : List Spatial → Type 0 = λ z. (bs : Choice) → IsChosen bs z
      → (cs : Choice) × IsChosen cs [] × AreAlike (list_facts bs z) (list_facts cs []) in
      subst P (sym e) (λ bs c. (bs, c, alike_self (list_facts bs []))) bs c
  reorder_to (x ∷ xs) ys r bs c =
      let us = r.1.0 in
      let vs = r.1.1 in
      let P : List Spatial → Type 0 = λ z. (bs : Choice) → IsChosen bs z
      → (cs : Choice) × IsChosen cs (x ∷ xs) × AreAlike (list_facts bs z) (list_facts cs (x ∷ xs)) in
      subst P (sym r.1.2) (λ bs c.
      let f = front_out us vs x bs c in
      let t = reorder_to xs (us ++ vs) (subst (Reorders xs) r.1.3 r.2) (next f.0) f.1.1 in (
        cons_choice (f.0 0) t.0,
        (f.1.0, t.1),
        alike_then (list_facts bs (us ++ (x ∷ vs))) (list_facts f.0 (x ∷ (us ++ vs)))
            (list_facts (cons_choice (f.0 0) t.0) (x ∷ xs))
            f.2 (alike_second (atom_facts (f.0 0) x) (list_facts (next f.0) (us ++ vs)) (list_facts t.0 xs) t.2),
      )) bs c

  reorder_from : (xs ys : List Spatial) → Reorders xs ys → (bs : Choice) → IsChosen bs xs
      → (cs : Choice) × IsChosen cs ys × AreAlike (list_facts bs xs) (list_facts cs ys)
  reorder_from [] ys e bs c =
      let P : List Spatial → Type 0 = λ z. (cs : Choice) × IsChosen cs z
      × AreAlike (list_facts bs []) (list_facts cs z) in
      subst P (sym e) (bs, c, alike_self (list_facts bs []))
  reorder_from (x ∷ xs) ys r bs c =
      let us = r.1.0 in
      let vs = r.1.1 in
      let P : List Spatial → Type 0 = λ z. (cs : Choice) × IsChosen cs z
      × AreAlike (list_facts bs (x ∷ xs)) (list_facts cs z) in
      let t = reorder_from xs (us ++ vs) (subst (Reorders xs) r.1.3 r.2) (next bs) c.1 in
      let ds = cons_choice (bs 0) t.0 in
      let f = front_in us vs x ds (c.0, t.1) in
      subst P (sym r.1.2) (
        f.0,
        f.1,
        alike_then (list_facts bs (x ∷ xs)) (list_facts ds (x ∷ (us ++ vs))) (list_facts f.0 (us ++ (x ∷ vs)))
            (alike_second (atom_facts (bs 0) x) (list_facts (next bs) xs) (list_facts t.0 (us ++ vs)) t.2) f.2,
      )

  abbrev pub Give : ℕ → List Pure → BasePair → List Spatial → Type 0
  Give k ps d xs = GivesBy (families_of (map list xs)) k d (record { pure = ps; spatial = xs })

  gives_by : (k : ℕ) (ps : List Pure) (d : BasePair) (xs ys : List Spatial) (bs cs : Choice) → IsChosen cs ys
      → AreAlike (list_facts bs xs) (list_facts cs ys) → (g : Give k ps d xs) → g.chosen ≡ bs → Give k ps d ys
  gives_by k ps d xs ys bs cs c a g e =
      let p = pure_facts ps in
      let whole = alike_second p (list_facts bs xs) (list_facts cs ys) a in
      let back : AreAlike (both p (list_facts cs ys)) (both p (list_facts bs xs)) = (whole.1, whole.0) in
      record {
        chosen = cs;
        from_families = c;
        consistent = alike_consistent (both p (list_facts cs ys)) (both p (list_facts bs xs)) back
            (subst (λ z. AreConsistent (both p (list_facts z xs))) e g.consistent);
        projected = subst (λ z. d ≡ said k parameter (both p (list_facts z xs))) e g.projected
            ∙ alike_said k parameter (both p (list_facts bs xs)) (both p (list_facts cs ys)) whole;
      }

  pub reordered_give : (k : ℕ) (ps : List Pure) (d : BasePair) (xs ys : List Spatial) → Reorders xs ys → Give k ps d xs
      ↔ Give k ps d ys
  reordered_give k ps d xs ys o = (
    λ g. let r = reorder_from xs ys o g.chosen g.from_families in gives_by k ps d xs ys g.chosen r.0 r.1 r.2 g refl,
    λ g. let r = reorder_to xs ys o g.chosen g.from_families in gives_by k ps d ys xs g.chosen r.0 r.1 r.2 g refl,
  )
