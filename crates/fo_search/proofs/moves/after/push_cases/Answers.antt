use Rattle.std.proofs.Common.{◌≡◌, ◌<◌, List, Some, map, length, arith, sym, ap, ◌∙◌}
use Rattle.std.specs.Prelude.{slice_get}
use Rattle.cyc_basics.proofs.Places.{at_index}
use Rattle.fo_formula.specs.declared.atoms.FoAtom.{FoAtom}
use Rattle.fo_formula.specs.declared.nodes.FoRule.TheVariants.{Right}
use Rattle.fo_formula.specs.Meaning.{cases_of}
use Rattle.fo_search.specs.After.{choices, rights_by}
use Rattle.fo_search.specs.Subterms.{subterms}
use Rattle.fo_search.specs.Told.{rights_going}
use Rattle.fo_search.proofs.Cases.{none_go, going_more, going_same, going_on}
use Rattle.fo_search.proofs.moves.after.push_cases.Goals as goal
use Rattle.fo_search.proofs.moves.after.push_cases.Goals.{then-as_slice-most+in_ok-whole_case+in_ok-push_back}
use Rattle.fo_search.proofs.moves.after.push_cases.Goals.{else-as_slice-most}

pub loop-c-preserved : goal.loop-c-preserved
loop-c-preserved c =
    let t = c.args.theory.now in
    let s = c.args.sequent.now in
    let j = c.args.j in
    let args = c.args.arguments.now in
    let case = c.index-cases-c.result in
    let before = rights_going c.args.most t s c.loop-c.all.items in
    let after = rights_going c.args.most t s c.if-as_slice-most.all.items in
    elim c.if-as_slice-most.branch [
      | then-as_slice-most+in_ok-whole_case+in_ok-push_back w ↦
          (let is = w.in_ok-whole_case.ensures s.left (subterms s)
          ∙ ap (λ (b : List FoAtom). map (λ ts. Right j c.loop-c.c ts) (choices s args b))
          w.as_slice-then-as_slice-most.ensures in
          going_on c.args.most t s (rights_by s j args)
          c.loop-c.c c.args.cases.now case case before after _ c.loop-c-test.true c.index-cases-c.is
          (going_more c.args.most t s c.loop-c.all.items c.if-as_slice-most.all.items w.in_ok-whole_case.field-0
          (rights_by s j args c.loop-c.c case) (ap (λ q. q.items) w.all-is ∙ w.in_ok-push_back.ensures.items) is)
          c.loop-c.invariant)
      | else-as_slice-most w ↦
          (let is_case : slice_get (cases_of t.definitions c.args.predicate) c.loop-c.c
          ≡ Some case = ap (λ (cs : List (List FoAtom)). slice_get cs c.loop-c.c) (sym c.requires.cases)
          ∙ at_index c.args.cases.now c.loop-c.c case case c.loop-c-test.true (sym c.index-cases-c.is) in
          let many : c.args.most < length case = omega (arith, w.if-as_slice-most.false, ap length c.as_slice.ensures)
          in
          going_on c.args.most t s (rights_by s j args)
          c.loop-c.c c.args.cases.now case case before after _ c.loop-c-test.true c.index-cases-c.is
          (ap (λ q. rights_going c.args.most t s q.items) w.all-is
          ∙ going_same c.args.most t s before (rights_by s j args c.loop-c.c case)
          (none_go c.args.most t s j c.loop-c.c c.args.predicate args case c.requires.atom is_case many
          (choices s args case)))
          c.loop-c.invariant)
    ]
