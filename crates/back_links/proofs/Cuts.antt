-- Branches without a link, and the branches of the whole.
use Rattle.std.proofs.Common.{◌≡◌, ◌≢◌, ℕ, suc, ◌<◌, Bool, true, false, ◌&&◌, cond, List, [], ◌∷◌, ◌++◌, map, length}
use Rattle.std.proofs.Common.{get_or, drop, Option, Some, None, refl, sym, ap, ◌∙◌, subst, arith, append_assoc}
use Rattle.std.proofs.Common.{drop-cons, length-append}
use Rattle.std.specs.Prelude.{slice_get}
use Rattle.std.specs.List.{filter, flat_map, range_with_len}
use Rattle.std.specs.Option.{is_none}
use Rattle.std.proofs.lemmas.List.{append-nil}
use Rattle.std.proofs.lemmas.List.Folds.{flat_map-map}
use Rattle.heap_formula.specs.declared.terms.Term.{Term}
use Rattle.heap_formula.specs.declared.atoms.Spatial.{Spatial}
use Rattle.heap_formula.specs.declared.judgements.Judgement.{Judgement}
use Rattle.heap_formula.specs.declared.proof_rules.Link.{Link}
use Rattle.heap_formula.specs.declared.proof_rules.RuleFault.{RuleFault}
use Rattle.heap_formula.specs.Symbolic.{SymbolicHeap}
use Rattle.heap_formula.specs.Judgements.{antecedent}
use Rattle.heap_formula.specs.Substitution.{Bindings, apply_heap}
use Rattle.rule_table.specs.Answer.{disjuncts}
use Rattle.rule_table.specs.LinkTable.{covers_some, link_fault, disjunct_fault}
use Rattle.back_links.specs.Listing.{selections, number_choices, value_choices, values_of, universals, maps}
use Rattle.back_links.specs.Listing.{substitutions, covers, link_of, candidates, links}
use Rattle.back_links.specs.Prospects.{could_send, have_values, could_take, could_place, are_alike, have_covers}
use Rattle.back_links.specs.Branches.{below, if_right, by_entries, by_pairs, by_places}
use Rattle.back_links.proofs.Selecting.{IsSelection, each_selection, all_none, filter_none, filter_flat_map}
use Rattle.back_links.proofs.Selecting.{filter_map_one, below_end, below_next}
use Rattle.back_links.proofs.Possible.{Fits, fits, send_ok, values_ok, take_ok, entry_covers, covers_ok, front_agrees}

abbrev Faulty : Judgement → Judgement → ℕ → ℕ → List ℕ → Bindings → List ℕ → Type 0
Faulty bud companion target p places s ks = link_fault bud companion (link_of target places s ks) p ≢ None

not_right : (o : Option RuleFault) → o ≢ None → is_none o ≡ false
not_right None h = absurd (h refl)
not_right (Some f) h = refl

pub true_false : (b : Bool) → b ≡ false → b ≡ true → ⊥
true_false b e f = cc

module _ (bud companion : Judgement) (target p : ℕ) where
  fit : (places : List ℕ) (s : Bindings) (ks : List ℕ) → link_fault bud companion (link_of target places s ks) p ≡ None
      → Fits bud companion p places s ks
  fit places s ks e = fits bud companion p (link_of target places s ks) e

  wrong_none : (link : Link) → link_fault bud companion link p ≢ None → if_right bud companion p link ≡ []
  wrong_none link h = ap (λ b. cond b (link ∷ []) []) (not_right (link_fault bud companion link p) h)

  entries_none : (places : List ℕ) (s : Bindings) (made : List ℕ) (rest : List (List ℕ))
      → ((r : List ℕ) → Faulty bud companion target p places s (made ++ r))
      → by_entries bud companion target p places s made rest ≡ []
  entries_none places s made rest h =
      all_none (λ (r : List ℕ). if_right bud companion p (link_of target places s (made ++ r))) (selections rest)
      (each_selection (λ (r : List ℕ). if_right bud companion p (link_of target places s (made ++ r)) ≡ []) rest
      (λ r i. wrong_none (link_of target places s (made ++ r)) (h r)))

  pairs_none : (places : List ℕ) (made : Bindings) (rest : List Bindings)
      → ((r : Bindings) (ks : List ℕ) → IsSelection rest r → Faulty bud companion target p places (made ++ r) ks)
      → by_pairs bud companion target p places made rest ≡ []
  pairs_none places made rest h =
      all_none (λ (r : Bindings). all (made ++ r)) (selections rest)
      (each_selection (λ (r : Bindings). all (made ++ r) ≡ []) rest
      (λ r i. entries_none places (made ++ r) [] (number_choices (disjuncts bud) (disjuncts companion))
      (λ ks. h r ks i)))
    where
      all : Bindings → List Link
      all t = by_entries bud companion target p places t [] (number_choices (disjuncts bud) (disjuncts companion))

  -- ---- entries

  pub entry_cut : (places : List ℕ) (s : Bindings) (made : List ℕ) (m : ℕ) (c : SymbolicHeap) (rest : List (List ℕ))
      → length made < length (disjuncts companion) → get_or (disjuncts companion) (length made) c ≡ c
      → covers_some (apply_heap s c) (slice_get (disjuncts bud) m) ≡ false
      → by_entries bud companion target p places s (made ++ m ∷ []) rest ≡ []
  entry_cut places s made m c rest lt at e =
      entries_none places s (made ++ m ∷ []) rest (λ r n. true_false _ e
      (entry_covers (disjuncts bud) s 0 made m r (disjuncts companion) c lt at
      (subst (λ (ks : List ℕ). disjunct_none s ks) (append_assoc made (m ∷ []) r)
      (fit places s ((made ++ m ∷ []) ++ r) n).disjunct)))
    where
      disjunct_none : Bindings → List ℕ → Type 0
      disjunct_none s ks = disjunct_fault (disjuncts bud) 0 ks (map (apply_heap s) (disjuncts companion)) ≡ None

  pub covers_cut : (places : List ℕ) (s : Bindings) (rest : List (List ℕ))
      → have_covers (disjuncts bud) s (disjuncts companion) ≡ false
      → by_entries bud companion target p places s [] rest ≡ []
  covers_cut places s rest e =
      entries_none places s [] rest (λ r n. true_false (have_covers (disjuncts bud) s (disjuncts companion)) e
      (covers_ok (disjuncts bud) s 0 r (disjuncts companion) (fit places s r n).disjunct))

  -- ---- values

  pub value_cut : (places : List ℕ) (made : Bindings) (n : ℕ) (rest : List Bindings)
      → could_send bud companion p places made n ≡ false → by_pairs bud companion target p places made rest ≡ []
  value_cut places made n rest e =
      pairs_none places made rest (λ r ks i right. true_false (could_send bud companion p places made n) e
      (send_ok bud companion p places [] made (made ++ r) n ks (front_agrees made r)
      (subst (λ (ms : List ℕ). Fits bud companion p ms (made ++ r) ks) (sym (append-nil places))
      (fit places (made ++ r) ks right))))

  -- no link has the map and begins with the pairs, since none that does fits
  pub open_pairs_cut : (places : List ℕ) (made : Bindings) (rest : List Bindings)
      → ((r : Bindings) (ks : List ℕ) → Fits bud companion p places (made ++ r) ks → ⊥)
      → by_pairs bud companion target p places made rest ≡ []
  open_pairs_cut places made rest h = pairs_none places made rest (λ r ks i n. h r ks (fit places (made ++ r) ks n))

  -- ---- places

  module _ (values : List Term) (sources : List ℕ) where
    places_none : (made : List ℕ) (rest : List (List ℕ))
        → ((r : List ℕ) (s : Bindings) (ks : List ℕ) → IsSelection (value_choices values sources) s
        → Faulty bud companion target p (made ++ r) s ks) → by_places bud companion target p values sources made rest
        ≡ []
    places_none made rest h =
        all_none (λ (r : List ℕ). by_pairs bud companion target p (made ++ r) [] (value_choices values sources))
        (selections rest) (each_selection (λ (r : List ℕ). by_pairs bud companion target p (made ++ r) []
        (value_choices values sources) ≡ []) rest (λ r i.
        pairs_none (made ++ r) [] (value_choices values sources) (h r)))

    -- no link begins with the places, since none that does fits
    pub open_cut : (made : List ℕ) (rest : List (List ℕ))
        → ((r : List ℕ) (s : Bindings) (ks : List ℕ) → IsSelection (value_choices values sources) s
        → Fits bud companion p (made ++ r) s ks → ⊥) → by_places bud companion target p values sources made rest ≡ []
    open_cut made rest h = places_none made rest (λ r s ks i n. h r s ks i (fit (made ++ r) s ks n))

    take_cut : (made : List ℕ) (m : ℕ) (rest : List (List ℕ)) → could_take bud companion made m ≡ false
        → by_places bud companion target p values sources (made ++ m ∷ []) rest ≡ []
    take_cut made m rest e =
        places_none (made ++ m ∷ []) rest (λ r s ks i n. true_false (could_take bud companion made m) e
        (take_ok bud companion p made m r s ks (subst (λ (ms : List ℕ). Fits bud companion p ms s ks)
        (append_assoc made (m ∷ []) r) (fit ((made ++ m ∷ []) ++ r) s ks n))))

    domain_cut : (made : List ℕ) (x : Spatial) (rest : List (List ℕ))
        → have_values bud companion p values made x sources ≡ false
        → by_places bud companion target p values sources made rest ≡ []
    domain_cut made x rest e =
        places_none made rest (λ r s ks i n. true_false (have_values bud companion p values made x sources) e
        (values_ok bud companion p values sources made r x s ks i (fit (made ++ r) s ks n)))

  -- ---- the whole

  pub unlike : are_alike bud companion ≡ false → links bud companion target p ≡ []
  unlike e = filter_none (λ (l : Link). is_none (link_fault bud companion l p)) (candidates bud companion target)
      (λ l. not_right (link_fault bud companion l p) (λ n. true_false (are_alike bud companion) e
      (fits bud companion p l n).alike))

  pub links_are : by_places bud companion target p (values_of bud) (universals companion) []
      (number_choices (antecedent bud).spatial (antecedent companion).spatial) ≡ links bud companion target p
  links_are =
      sym (filter_flat_map right (λ (ms : List ℕ). flat_map (λ (s : Bindings). map
      (λ (ks : List ℕ). link_of target ms s ks) (covers bud companion)) (substitutions bud companion))
      (maps bud companion)
      ∙ (λ i. flat_map (λ (ms : List ℕ). inner ms i) (maps bud companion)))
    where
      right : Link → Bool
      right l = is_none (link_fault bud companion l p)

      inner : (ms : List ℕ) → filter right (flat_map (λ (s : Bindings). map (λ (ks : List ℕ). link_of target ms s ks)
          (covers bud companion)) (substitutions bud companion))
          ≡ by_pairs bud companion target p ms [] (value_choices (values_of bud) (universals companion))
      inner ms =
          filter_flat_map right (λ (s : Bindings). map (λ (ks : List ℕ). link_of target ms s ks) (covers bud companion))
          (substitutions bud companion)
          ∙ (λ i. flat_map (λ (s : Bindings). filter_map_one right (λ (ks : List ℕ). link_of target ms s ks)
          (covers bud companion) i) (substitutions bud companion))

  -- ---- one choice more, and none left

  -- the entries from here on
  abbrev pub entries_from : List ℕ → Bindings → List ℕ → List Link
  entries_from places s made = by_entries bud companion target p places s made
      (number_choices (disjuncts bud) (drop (length made) (disjuncts companion)))

  pub entries_all : (places : List ℕ) (s : Bindings) (made : List ℕ) (c : SymbolicHeap)
      → length made < length (disjuncts companion) → flat_map (λ m. entries_from places s (made ++ m ∷ []))
      (range_with_len 0 (length (disjuncts bud))) ≡ entries_from places s made
  entries_all places s made c lt =
      (λ i. flat_map (λ (m : ℕ). by_entries bud companion target p places s (made ++ m ∷ [])
      (number_choices (disjuncts bud) (drop (longer m i) (disjuncts companion))))
      (range_with_len 0 (length (disjuncts bud))))
      ∙ sym (below_next (λ (ks : List ℕ). if_right bud companion p (link_of target places s ks)) made
      (range_with_len 0 (length (disjuncts bud))) (number_choices (disjuncts bud)
      (drop (suc (length made)) (disjuncts companion))))
      ∙ ap (λ (cs : List SymbolicHeap). by_entries bud companion target p places s made
      (number_choices (disjuncts bud) cs)) (sym (drop-cons (disjuncts companion) (length made) c lt))
    where
      longer : (m : ℕ) → length (made ++ m ∷ []) ≡ suc (length made)
      longer m = omega (arith, length-append made (m ∷ []))

  pub pairs_end : (places : List ℕ) (made : Bindings)
      → by_entries bud companion target p places made [] (number_choices (disjuncts bud) (disjuncts companion))
      ≡ by_pairs bud companion target p places made []
  pairs_end places made = sym (below_end (λ (t : Bindings). by_entries bud companion target p places t []
      (number_choices (disjuncts bud) (disjuncts companion))) made)

  pub pairs_all : (places : List ℕ) (made : Bindings) (values : List Term) (rest : List ℕ) → 0 < length rest
      → flat_map (λ v. by_pairs bud companion target p places (made ++ (get_or rest 0 0, v) ∷ [])
      (value_choices values (drop 1 rest))) values ≡ by_pairs bud companion target p places made
      (value_choices values rest)
  pairs_all places made values [] lt = absurd (omega arith)
  pairs_all places made values (n ∷ ns) lt =
      sym (below_next all made (map (λ (v : Term). (n, v)) values) (value_choices values ns)
      ∙ flat_map-map (λ (q : ℕ × Term). below all (made ++ q ∷ []) (value_choices values ns)) (λ (v : Term). (n, v))
      values)
    where
      all : Bindings → List Link
      all t = by_entries bud companion target p places t [] (number_choices (disjuncts bud) (disjuncts companion))

  module _ (values : List Term) (sources : List ℕ) where
    pub places_end : (made : List ℕ) → by_pairs bud companion target p made [] (value_choices values sources)
        ≡ by_places bud companion target p values sources made []
    places_end made = sym (below_end (λ (ms : List ℕ). by_pairs bud companion target p ms []
        (value_choices values sources)) made)

    pub places_all : (made : List ℕ) (rest : List Spatial) → 0 < length rest
        → flat_map (λ m. by_places bud companion target p values sources (made ++ m ∷ [])
        (number_choices (antecedent bud).spatial (drop 1 rest))) (range_with_len 0 (length (antecedent bud).spatial))
        ≡ by_places bud companion target p values sources made (number_choices (antecedent bud).spatial rest)
    places_all made [] lt = absurd (omega arith)
    places_all made (x ∷ xs) lt =
        sym (below_next (λ (ms : List ℕ). by_pairs bud companion target p ms [] (value_choices values sources)) made
        (range_with_len 0 (length (antecedent bud).spatial)) (number_choices (antecedent bud).spatial xs))

    pub could_cut : (made : List ℕ) (m : ℕ) (x : Spatial) (rest : List (List ℕ))
        → could_place bud companion p values made m x sources ≡ false
        → by_places bud companion target p values sources (made ++ m ∷ []) rest ≡ []
    could_cut made m x rest e = first (could_take bud companion made m)
        (have_values bud companion p values (made ++ m ∷ []) x sources) e (take_cut values sources made m rest)
        (domain_cut values sources (made ++ m ∷ []) x rest)
      where
        first : {A : Type 0} (a b : Bool) → a && b ≡ false → (a ≡ false → A) → (b ≡ false → A) → A
        first false b e f g = f refl
        first true b e f g = g e
