use Rattle.std.proofs.Common.{◌≡◌, ◌+◌, ◌++◌, [], ◌∷◌, List, drop, get_or, map, refl, ap, sym, ◌∙◌, arith, subst}
use Rattle.std.specs.Prelude.{Vec}
use Rattle.std.specs.Global.{Global}
use Rattle.std.proofs.lemmas.List.{length-map, length-drop}
use Rattle.heap_formula.specs.Words.{Each}
use Rattle.cyc_grammar.proofs.WrittenTexts.{left-at, none-at}
use Rattle.fo_formula.specs.declared.terms.Sign.{Sign as SignValue}
use Rattle.fo_formula.specs.declared.terms.Term.{Term}
use Rattle.fo_formula.specs.Words.{Word}
use Rattle.fo_syntax.specs.declared.terms.tree.SignTree.TheVariants as trees
use Rattle.fo_syntax.specs.Trees.{Sign, sign_of}
use Rattle.fo_file.specs.Known.{IsKnownSign}
use Rattle.fo_file.specs.Values.{sign_value, term_value}
use Rattle.fo_file.proofs.Adjacent.{IsUnderway, none-made, more-awaited, not-yet, one-made, all-made, told-so}
use Rattle.fo_file.proofs.TreesAgain.{arity-value, terms-value}
use Rattle.fo_file.proofs.values.term_values.adjacent_terms.Goals as goal
use Rattle.fo_file.proofs.values.term_values.adjacent_terms.Goals.{then-awaited-eq0+in_ok-push-2, else-awaited-eq0}

pub loop-tree-init : goal.loop-tree-init
loop-tree-init c =
    let whole = term_value c.args.constructors.now (map sign_of c.args.trees.now) in
    let start = none-made c.args.count whole (terms-value c.args.constructors.now c.args.count
    (map sign_of c.args.trees.now) c.requires.known.0) in
    record {
      underway = subst (λ (made : List Word). IsUnderway c.args.count whole made 1 c.new-signs.result.items whole)
          (sym c.in_ok-terms.ensures.items) (subst (λ (front : Word). IsUnderway c.args.count whole [] 1 front whole)
          (sym c.new-signs.ensures.items) start);
      known = c.requires.known.1;
    }

pub overflow_add-awaited : goal.overflow_add-awaited
overflow_add-awaited c =
    let cs = c.args.constructors.now in
    let i = c.loop-tree.tree-index in
    let item = get_or c.args.trees.now i (trees.Variable 0) in
    let rest = drop (i + 1) c.args.trees.now in
    let left = ap (λ ts. term_value cs (map sign_of ts))
    (left-at c.args.trees.now i (trees.Variable 0) c.loop-tree-test.true) in
    let more = more-awaited c.args.count (term_value cs (map sign_of c.args.trees.now))
    c.loop-tree.terms.items c.loop-tree.awaited c.loop-tree.signs.items (sign_value cs (sign_of item))
    (term_value cs (map sign_of rest)) (term_value cs (map sign_of (drop i c.args.trees.now)))
    left c.loop-tree.invariant.underway in
    let arity = arity-value cs (sign_of item) in
    let signs = length-map (map sign_of rest) (sign_value cs) in
    let size = length-map rest sign_of in
    let shorter = length-drop (i + 1) c.args.trees.now in
    let said = c.arguments_of_sign.ensures in
    omega arith

pub loop-tree-preserved : goal.loop-tree-preserved
loop-tree-preserved c =
    let cs = c.args.constructors.now in
    let i = c.loop-tree.tree-index in
    let item = get_or c.args.trees.now i (trees.Variable 0) in
    let s = sign_value cs (sign_of item) in
    let whole = term_value cs (map sign_of c.args.trees.now) in
    let rest = term_value cs (map sign_of (drop (i + 1) c.args.trees.now)) in
    let all = term_value cs (map sign_of (drop i c.args.trees.now)) in
    let left = ap (λ ts. map sign_of ts) (left-at c.args.trees.now i (trees.Variable 0) c.loop-tree-test.true) in
    let split : all ≡ s ∷ rest = ap (term_value cs) left in
    let arity = arity-value cs (sign_of item) in
    let said = c.arguments_of_sign.ensures in
    let known = (subst (λ (ss : List Sign). Each (IsKnownSign cs) ss) left c.loop-tree.invariant.known).1 in
    let signs : c.push.new.self.items ≡ c.loop-tree.signs.items ++ s ∷ [] = c.in_ok-push.ensures.items
    ∙ ap (λ (x : SignValue). c.loop-tree.signs.items ++ x ∷ []) c.sign.ensures in
    elim c.if-awaited-eq0.branch [
      | then-awaited-eq0+in_ok-push-2 w ↦
          let made = one-made c.args.count whole c.loop-tree.terms.items c.loop-tree.awaited c.loop-tree.signs.items s
          rest all split (omega arith) c.loop-tree.invariant.underway in
          record {
            underway = told-so c.args.count whole (c.loop-tree.terms.items ++ (c.loop-tree.signs.items ++ s ∷ []) ∷ [])
                c.if-awaited-eq0.terms.items 1 c.if-awaited-eq0.awaited [] c.if-awaited-eq0.signs.items rest
                (ap (λ (v : Vec Term Global). v.items) w.terms-is ∙ w.in_ok-push-2.ensures.items
                ∙ ap (λ (t : Word). c.loop-tree.terms.items ++ t ∷ []) (w.from_vec.ensures ∙ signs)) w.awaited-is
                (ap (λ (v : Vec SignValue Global). v.items) w.signs-is ∙ w.new-signs-then-awaited-eq0.ensures.items)
                made;
            known = known;
          }
      | else-awaited-eq0 w ↦
          let more = not-yet c.args.count whole c.loop-tree.terms.items c.loop-tree.awaited c.if-awaited-eq0.awaited
          c.loop-tree.signs.items s rest all split (omega arith) (omega arith) c.loop-tree.invariant.underway in
          record {
            underway = told-so c.args.count whole c.loop-tree.terms.items c.if-awaited-eq0.terms.items
                c.if-awaited-eq0.awaited c.if-awaited-eq0.awaited (c.loop-tree.signs.items ++ s ∷ [])
                c.if-awaited-eq0.signs.items rest (ap (λ (v : Vec Term Global). v.items) w.terms-is) refl
                (ap (λ (v : Vec SignValue Global). v.items) w.signs-is ∙ signs) more;
            known = known;
          }
    ]

pub returns : goal.returns
returns c =
    let cs = c.args.constructors.now in
    let none = ap (λ ts. term_value cs (map sign_of ts)) (none-at c.args.trees.now c.loop-tree.tree-index (omega arith))
    in
    c.from_vec-2.ensures ∙ all-made c.args.count (term_value cs (map sign_of c.args.trees.now))
    c.loop-tree.terms.items c.loop-tree.awaited c.loop-tree.signs.items
    (term_value cs (map sign_of (drop c.loop-tree.tree-index c.args.trees.now))) none c.loop-tree.invariant.underway
