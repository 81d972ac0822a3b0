-- A proof whose tree fits the grammar and has no flaw, and whose predicates have terms as arguments, is what its tree
-- says.
use Rattle.std.proofs.Common.{◌≡◌, ℕ, zero, suc, ◌+◌, Bool, true, false, List, [], ◌∷◌, ◌++◌, length, map, take, drop}
use Rattle.std.proofs.Common.{None, refl, sym, ap, ◌∙◌}
use Rattle.std.specs.List.{flat_map}
use Rattle.std.proofs.Math.Seq.{drop-append_seam, take-append_seam}
use Rattle.std.proofs.lemmas.List.{map-append}
use Rattle.heap_formula.specs.Words.{Each}
use Rattle.heap_formula.specs.declared.proof_rules.Side.{Side}
use Rattle.heap_formula.specs.declared.proof_rules.Side.TheVariants as sides
use Rattle.cyc_grammar.specs.Syntax.{after}
use Rattle.heap_reader.specs.Trees.{Heading}
use Rattle.heap_reader.specs.Values.{place_of}
use Rattle.heap_reader.proofs.NoFlaw.{neither}
use Rattle.heap_syntax.specs.Words.{true_word, bar}
use Rattle.heap_syntax.specs.Grammar.{Any}
use Rattle.fo_formula.specs.declared.terms.Sign.{Sign as SignValue}
use Rattle.fo_formula.specs.declared.terms.Sign.TheVariants as signs
use Rattle.fo_formula.specs.declared.atoms.FoAtom.{FoAtom}
use Rattle.fo_formula.specs.declared.atoms.FoAtom.TheVariants as atoms
use Rattle.fo_formula.specs.declared.sequents.FoSequent.{FoSequent}
use Rattle.fo_formula.specs.declared.theory.Constructor.{Constructor as ConstructorValue}
use Rattle.fo_formula.specs.declared.theory.FoDefinition.{FoDefinition}
use Rattle.fo_formula.specs.declared.theory.FoTheory.{FoTheory}
use Rattle.fo_formula.specs.declared.nodes.FoRule.TheVariants as rules
use Rattle.fo_formula.specs.declared.nodes.FoReason.{FoReason}
use Rattle.fo_formula.specs.declared.nodes.FoReason.TheVariants as reasons
use Rattle.fo_formula.specs.Nodes.{FoNode}
use Rattle.fo_formula.specs.declared.nodes.FoFile.{FoFile}
use Rattle.fo_formula.specs.Words.{Word, arity, AreTerms, IsTerm, end_of, first_term, after_first}
use Rattle.fo_syntax.specs.Words.{false_word, free_name}
use Rattle.fo_syntax.specs.Trees.{Sign, Apply}
use Rattle.fo_syntax.specs.Fits.{FitsSign, FitSigns}
use Rattle.fo_syntax.specs.Grammar.{term, atom}
use Rattle.fo_syntax.proofs.TermFits.{term-signs}
use Rattle.fo_syntax.proofs.AtomTexts.{sides as sides_of, alone}
use Rattle.fo_syntax.specs.ProblemGrammar.{left, cases, definition, sequent}
use Rattle.fo_syntax.specs.ProofGrammar.{right_rule, entry, link, parts, reason, node, file}
use Rattle.fo_file.specs.Spans.{behind_theory}
use Rattle.fo_file.specs.Flaws.{constructor_heads, predicate_heads, constructors_flaw, definitions_flaw, theory_flaw}
use Rattle.fo_file.specs.Flaws.{nodes_flaw, file_flaw}
use Rattle.fo_file.specs.Values.{first_terms, side_value, constructor_value, sign_value, term_value, atom_value}
use Rattle.fo_file.specs.Values.{atoms_value, sequent_value, definition_value, entry_value, reason_value, node_value}
use Rattle.fo_file.specs.Written.{side_tree, constructor_tree, constructor_name, predicate_name, sign_tree, term_tree}
use Rattle.fo_file.specs.Written.{atom_tree, atoms_tree, sequent_tree, definition_tree, entry_tree, reason_tree}
use Rattle.fo_file.specs.Written.{node_tree, file_tree}
use Rattle.fo_file.specs.OfTerms.{IsAtomOfTerms, AreAtomsOfTerms, IsSequentOfTerms, IsDefinitionOfTerms}
use Rattle.fo_file.specs.OfTerms.{IsReasonOfTerms, IsNodeOfTerms, IsFileOfTerms}
use Rattle.fo_file.specs.Reading.{said_file}
use Rattle.fo_file.proofs.Fitted.{sides-fit, terms-fit, entries-fit, nodes-fit, definitions-fit, file-parts}
use Rattle.fo_file.proofs.Places.{constructor-placed, predicate-placed}
use Rattle.heap_reader.proofs.Members.{many_fit}

-- ---- terms that are joined come apart as they were

end-joined : (n : ℕ) (v w : Word) → AreTerms n v → end_of n (v ++ w) ≡ length v
end-joined zero [] w are = refl
end-joined zero (s ∷ v) w are = absurd are
end-joined (suc n) [] w are = absurd are
end-joined (suc n) (s ∷ v) w are = ap suc (end-joined (arity s + n) v w are)

first-of-joined : (ts : List Word) → Each IsTerm ts → first_terms (length ts) (flat_map (λ (t : Word). t) ts) ≡ ts
first-of-joined [] are = refl
first-of-joined (t ∷ ts) are =
    let rest = flat_map (λ (u : Word). u) ts in
    let end = end-joined 1 t rest are.0 in
    let front : first_term (t ++ rest) ≡ t = ap (λ i. take i (t ++ rest)) end ∙ take-append_seam t rest in
    let behind : after_first (t ++ rest) ≡ rest = ap (λ i. drop i (t ++ rest)) end ∙ drop-append_seam t rest in
    let more = ap (first_terms (length ts)) behind ∙ first-of-joined ts are.1 in
    λ i. front i ∷ more i

each-known : {X Y : Type 0} (tree : X → Y) (value : Y → X) (Q : Y → Type 0) (P : X → Type 0)
    → ((x : X) → Q (tree x) → P x → value (tree x) ≡ x) → (xs : List X) → Each Q (map tree xs) → Each P xs
    → map value (map tree xs) ≡ xs
each-known tree value Q P one [] f h = refl
each-known tree value Q P one (x ∷ xs) f h =
    let first = one x f.0 h.0 in
    let rest = each-known tree value Q P one xs f.1 h.1 in
    λ i. first i ∷ rest i

any-of : {X : Type 0} (xs : List X) → Each Any xs
any-of [] = tt
any-of (x ∷ xs) = (tt, any-of xs)

side-known : (s : Side) → side_value (side_tree s) ≡ s
side-known sides.Left = refl
side-known sides.Right = refl

constructors-known : (cs : List ConstructorValue) → map constructor_value (map constructor_tree cs) ≡ cs
constructors-known [] = refl
constructors-known (c ∷ cs) = ap (λ ds. c ∷ ds) (constructors-known cs)

-- ---- signs, terms and atoms

module _ (cs : List Heading) (t : FoTheory) (placed : (p : ℕ) → free_name.fits (constructor_name t p)
    → place_of cs (constructor_name t p) ≡ p) where
  sign-known : (b : Bool) (s : SignValue) → FitsSign b (sign_tree t s) → sign_value cs (sign_tree t s) ≡ s
  sign-known b (signs.Universal n) f = refl
  sign-known b (signs.Local n) f = refl
  sign-known b (signs.Constructor c k) f = ap (λ (p : ℕ). signs.Constructor p k) (placed c f)

  signs-known : (b : Bool) (w : Word) → FitSigns b (term_tree t w) → term_value cs (term_tree t w) ≡ w
  signs-known b [] f = refl
  signs-known b (s ∷ w) f =
      let first = sign-known b s f.0 in
      let rest = signs-known b w f.1 in
      λ i. first i ∷ rest i

  term-known : (b : Bool) (w : Word) → (term b).fits (term_tree t w) → term_value cs (term_tree t w) ≡ w
  term-known b w f = signs-known b w (term-signs b (term_tree t w) f).1

  fit-front : (b : Bool) (v w : List Sign) → FitSigns b (v ++ w) → FitSigns b v × FitSigns b w
  fit-front b [] w f = (tt, f)
  fit-front b (s ∷ v) w f = let rest = fit-front b v w f.1 in ((f.0, rest.0), rest.1)

  joined-known : (b : Bool) (ts : List Word) → FitSigns b (flat_map (term_tree t) ts)
      → term_value cs (flat_map (term_tree t) ts) ≡ flat_map (λ (u : Word). u) ts
  joined-known b [] f = refl
  joined-known b (v ∷ ts) f =
      let both = fit-front b (term_tree t v) (flat_map (term_tree t) ts) f in
      let first = signs-known b v both.0 in
      let rest = joined-known b ts both.1 in
      map-append (sign_value cs) (term_tree t v) (flat_map (term_tree t) ts) ∙ (λ i. first i ++ rest i)

  entry-known : (e : ℕ × Word) → entry.fits (entry_tree t e) → entry_value cs (entry_tree t e) ≡ e
  unfolding entry
  entry-known e f = let value = term-known false e.1 f.1.1 in λ i. (e.0, value i)

  module _ (ps : List Heading) (placed_predicates : (p : ℕ) → free_name.fits (predicate_name t p)
      → place_of ps (predicate_name t p) ≡ p) where
    atom-known : (b : Bool) (x : FoAtom) → (atom b).fits (atom_tree t x) → IsAtomOfTerms x
        → atom_value cs ps (atom_tree t x) ≡ x
    atom-known b (atoms.Equation l r) f h =
        let both = sides_of b (term_tree t l) (term_tree t r) f in
        let first = term-known b l both.left in
        let second = term-known b r both.right in
        λ i. atoms.Equation (first i) (second i)
    atom-known b (atoms.Predicate p ts) f h =
        let word = Apply (predicate_name t p) (length ts) ∷ flat_map (term_tree t) ts in
        let fit = (term-signs b word (alone b word f).fits).1 in
        let number = placed_predicates p fit.0 in
        let arguments = ap (first_terms (length ts)) (joined-known b ts fit.1) ∙ first-of-joined ts h in
        λ i. atoms.Predicate (number i) (arguments i)

    atoms-known : (b : Bool) (xs : List FoAtom) → Each (atom b).fits (atoms_tree t xs) → AreAtomsOfTerms xs
        → atoms_value cs ps (atoms_tree t xs) ≡ xs
    atoms-known b xs f h = each-known (atom_tree t) (atom_value cs ps) (atom b).fits IsAtomOfTerms (atom-known b) xs f h

    sequent-known : (s : FoSequent) → sequent.fits (sequent_tree t s) → IsSequentOfTerms s
        → sequent_value cs ps (sequent_tree t s) ≡ s
    unfolding sequent
    sequent-known s f h =
        let first = atoms-known false s.left (sides-fit true_word false (atoms_tree t s.left) f.1.0) h.0 in
        let second = atoms-known false s.right (sides-fit false_word false (atoms_tree t s.right) f.1.1) h.1 in
        λ i. record { left = first i; right = second i }

    case-known : (xs : List FoAtom) → (left true).fits (atoms_tree t xs) → AreAtomsOfTerms xs
        → atoms_value cs ps (atoms_tree t xs) ≡ xs
    case-known xs f h = atoms-known true xs (sides-fit true_word true (atoms_tree t xs) f) h

    definition-known : (d : FoDefinition) → definition.fits (definition_tree t d) → IsDefinitionOfTerms d
        → definition_value cs ps (definition_tree t d) ≡ d
    unfolding definition cases
    definition-known d f h =
        let same = each-known (atoms_tree t) (atoms_value cs ps) (left true).fits AreAtomsOfTerms case-known d.cases
        (many_fit (after bar (left true)) (map (atoms_tree t) d.cases) f.1.1.1.1) h in
        λ i. record { name = d.name; arity = d.arity; cases = same i }

    -- ---- reasons and nodes

    reason-known : (r : FoReason) → reason.fits (reason_tree t r) → IsReasonOfTerms r
        → reason_value cs ps (reason_tree t r) ≡ r
    unfolding reason parts right_rule link
    reason-known (reasons.Rule (rules.Axiom i j)) f h = refl
    reason-known (reasons.Rule (rules.Refl j)) f h = refl
    reason-known (reasons.Rule (rules.Clash i)) f h = refl
    reason-known (reasons.Rule (rules.Decompose i)) f h = refl
    reason-known (reasons.Rule (rules.Replace n side)) f h = ap (λ (s : Side). reasons.Rule (rules.Replace n s))
        (side-known side)
    reason-known (reasons.Rule (rules.WeakenLeft i)) f h = refl
    reason-known (reasons.Rule (rules.WeakenRight j)) f h = refl
    reason-known (reasons.Rule (rules.Contract i)) f h = refl
    reason-known (reasons.Rule (rules.Unfold i)) f h = refl
    reason-known (reasons.Rule (rules.Cut x)) f h = ap (λ (y : FoAtom). reasons.Rule (rules.Cut y))
        (atom-known false x f.1.1 h)
    reason-known (reasons.Rule (rules.Right j c ts)) f h =
        ap (λ (us : List Word). reasons.Rule (rules.Right j c us))
        (each-known (term_tree t) (term_value cs) (term false).fits Any (λ u g a. term-known false u g) ts
        (terms-fit (map (term_tree t) ts) f.1.1.1.1) (any-of ts))
    reason-known (reasons.Link l) f h =
        ap (λ (es : List (ℕ × Word)). reasons.Link
        (record { to = l.to; substitution = es; left_map = l.left_map; right_map = l.right_map }))
        (each-known (entry_tree t) (entry_value cs) entry.fits Any (λ e g a. entry-known e g) l.substitution
        (entries-fit (map (entry_tree t) l.substitution) f.1.1.1.1.0) (any-of l.substitution))

    node-known : (n : FoNode) → node.fits (node_tree t n) → IsNodeOfTerms n → node_value cs ps (node_tree t n) ≡ n
    unfolding node
    node-known n f h =
        let first = sequent-known n.judgement f.1.0 h.0 in
        let second = reason-known n.reason f.1.1.0 h.1 in
        λ i. record { judgement = first i; reason = second i; premises = n.premises }

-- ---- proofs

pub file-said : (f : FoFile) → file.fits (file_tree f) → file_flaw (file_tree f) ≡ None → IsFileOfTerms f
    → f ≡ said_file (file_tree f)
file-said f fits e h =
    let t = f.theory in
    let tree = file_tree f in
    let cs = constructor_heads tree.constructors in
    let ps = predicate_heads tree.definitions in
    let both = neither (theory_flaw tree.constructors tree.definitions)
    (nodes_flaw cs ps (behind_theory tree.constructors tree.definitions) tree.nodes) e in
    let theory = neither (constructors_flaw tree.constructors) (definitions_flaw tree.constructors tree.definitions)
    both.0 in
    let placed = constructor-placed t.constructors theory.0 in
    let placed_predicates = predicate-placed cs _ t t.definitions theory.1 in
    let split = file-parts tree fits in
    let constructors = constructors-known t.constructors in
    let definitions = each-known (definition_tree t) (definition_value cs ps) definition.fits IsDefinitionOfTerms
    (definition-known cs t placed ps placed_predicates) t.definitions
    (definitions-fit tree.definitions split.definitions) h.0 in
    let nodes = each-known (node_tree t) (node_value cs ps) node.fits IsNodeOfTerms
    (node-known cs t placed ps placed_predicates) f.nodes (nodes-fit tree.nodes split.nodes) h.1 in
    sym (λ i. record {
      theory = record { constructors = constructors i; definitions = definitions i };
      nodes = nodes i;
    })
