use Rattle.std.proofs.Common.{◌≡◌, ◌-◌, ◌++◌, ◌∷◌, [], map, sym, ap, subst, ◌∙◌, arith, refl, List, Ok}
use Rattle.std.proofs.lemmas.List.{map_push}
use Rattle.std.proofs.lemmas.Result.{err_from_is_err_and}
use Rattle.proof_syntax.specs.Trees.{Definition, Line, End, definition_of, end_of}
use Rattle.proof_syntax.specs.declared.statements.tree.EndOrNode.{EndOrNode}
use Rattle.proof_syntax.specs.declared.statements.tree.LineOrLater.{LineOrLater}
use Rattle.proof_syntax.specs.declared.statements.tree.LineOrLater.TheVariants as later
use Rattle.proof_syntax.specs.declared.statements.tree.PredOrLater.{PredOrLater}
use Rattle.proof_syntax.specs.declared.statements.tree.PredOrLater.TheVariants as parts
use Rattle.proof_syntax.specs.Left.{First}
use Rattle.proof_syntax.specs.StatementTrees.{pred_or_later_of}
use Rattle.file_reader.specs.declared.front.Front.{Front}
use Rattle.file_reader.specs.declared.part.Behind.TheVariants.{Definitions, Lines, Ends}
use Rattle.file_reader.specs.Fronts.{kept_part, IsFront}
use Rattle.file_reader.proofs.FrontLaws.{lead-none, step-fails, part-shrinks, part-fails, front-open, front-pred}
use Rattle.file_reader.proofs.FrontLaws.{front-line, front-end, front-node}
use Rattle.file_reader.proofs.front.read_front.Goals as goal

pub returns-in_err-version : goal.returns-in_err-version
returns-in_err-version c =
    let p = err_from_is_err_and c.from_residual.result c.from_residual.ensures.1 in
    let ws = c.args.cursor.now in
    rw (p.1, p.2) (step-fails First ws ws (λ x. x) c.in_err-version.field-0.0 (lead-none ws) c.in_err-version.ensures)

pub returns-in_err-tree : goal.returns-in_err-tree
returns-in_err-tree c =
    let p = err_from_is_err_and c.from_residual-in_err-tree.result c.from_residual-in_err-tree.ensures.1 in
    let f = c.parts.invariant.read in
    rw (p.1, p.2)
    (part-fails c.parts.behind c.in_ok-version.version f.definitions c.parts.lines.items f.ends c.args.cursor.now
    c.parts.cursor c.in_err-tree.field-0.0 f.leads c.in_err-tree.ensures)

pub parts-init : goal.parts-init
parts-init c =
    let v = c.in_ok-version.version in
    let ws = c.args.cursor.now in
    let vs = c.first_statement.new.cursor in
    record {
      read =
          subst (λ (ds : List Definition). IsFront Definitions v ds c.new-lines.result.items
          (map end_of c.new-ends.result.items) ws vs) (sym (ap (map definition_of) c.new-definitions.ensures.items))
          (subst (λ (ls : List Line). IsFront Definitions v [] ls (map end_of c.new-ends.result.items) ws vs)
          (sym c.new-lines.ensures.items)
          (subst (λ (es : List End). IsFront Definitions v [] [] es ws vs)
          (sym (ap (map end_of) c.new-ends.ensures.items)) (front-open ws vs v c.in_ok-version.ensures)));
      count = omega (arith, c.left-count.ensures);
    }

pub parts-smaller-in-Continue-branch-4 : goal.parts-smaller-in-Continue-branch-4
parts-smaller-in-Continue-branch-4 c = part-shrinks c.parts.behind c.in_ok-version.version c.parts.cursor
    c.read_part.new.cursor (pred_or_later_of c.in_ok-tree.field-0) c.in_ok-tree.ensures

pub parts-smaller-in-Line : goal.parts-smaller-in-Line
parts-smaller-in-Line c = part-shrinks c.parts.behind c.in_ok-version.version c.parts.cursor c.read_part.new.cursor
    (pred_or_later_of c.in_ok-tree.field-0) c.in_ok-tree.ensures

pub parts-smaller : goal.parts-smaller
parts-smaller c = part-shrinks c.parts.behind c.in_ok-version.version c.parts.cursor c.read_part.new.cursor
    (pred_or_later_of c.in_ok-tree.field-0) c.in_ok-tree.ensures

pub parts-preserved-in-Continue-branch-4 : goal.parts-preserved-in-Continue-branch-4
parts-preserved-in-Continue-branch-4 c =
    let v = c.in_ok-version.version in
    let rest = c.read_part.new.cursor in
    let P : PredOrLater → Type 0 = λ s. kept_part c.parts.behind v c.parts.cursor ≡ Ok (pred_or_later_of s, rest) in
    let ds = map definition_of c.parts.definitions.items in
    let es = map end_of c.parts.ends.items in
    let d = definition_of c.in-Pred.tree in
    let defs : map definition_of c.push.new.self.items ≡ ds ++ d
    ∷ [] = ap (map definition_of) c.in_ok-push-in-Pred.ensures.items
    ∙ map_push definition_of c.parts.definitions.items c.in-Pred.tree in
    record {
      read = subst (λ (xs : List Definition). IsFront c.parts.behind v xs c.parts.lines.items es c.args.cursor.now rest)
          (sym defs)
          (front-pred c.parts.behind v ds c.parts.lines.items es c.args.cursor.now c.parts.cursor rest
          c.parts.invariant.read d (subst P c.in-Pred.is c.in_ok-tree.ensures));
      count = c.parts.invariant.count;
    }

pub parts-preserved-in-Line : goal.parts-preserved-in-Line
parts-preserved-in-Line c =
    let v = c.in_ok-version.version in
    let rest = c.read_part.new.cursor in
    let P : PredOrLater → Type 0 = λ s. kept_part c.parts.behind v c.parts.cursor ≡ Ok (pred_or_later_of s, rest) in
    let ds = map definition_of c.parts.definitions.items in
    let es = map end_of c.parts.ends.items in
    let ls = c.parts.lines.items in
    let line = subst (λ (l : LineOrLater). P (parts.Later l)) c.in-Line.is (subst P c.in-Later.is c.in_ok-tree.ensures)
    in
    record {
      read = subst (λ (xs : List Line). IsFront Lines v ds xs es c.args.cursor.now rest)
          (sym c.in_ok-push-in-Line.ensures.items)
          (front-line c.parts.behind v ds ls es c.args.cursor.now c.parts.cursor rest c.parts.invariant.read
          c.in-Line.tree line);
      count = c.parts.invariant.count;
    }

pub parts-preserved : goal.parts-preserved
parts-preserved c =
    let v = c.in_ok-version.version in
    let rest = c.read_part.new.cursor in
    let P : PredOrLater → Type 0 = λ s. kept_part c.parts.behind v c.parts.cursor ≡ Ok (pred_or_later_of s, rest) in
    let ds = map definition_of c.parts.definitions.items in
    let es = map end_of c.parts.ends.items in
    let ls = c.parts.lines.items in
    let last = subst (λ (l : LineOrLater). P (parts.Later l)) c.in-Later-later.is
    (subst P c.in-Later.is c.in_ok-tree.ensures) in
    let end = subst (λ (e : EndOrNode). P (parts.Later (later.Later e))) c.in-End.is last in
    let e = end_of c.in-End.tree in
    let ends : map end_of c.push-in-End.new.self.items ≡ es ++ e
    ∷ [] = ap (map end_of) c.in_ok-push-in-End.ensures.items ∙ map_push end_of c.parts.ends.items c.in-End.tree in
    record {
      read = subst (λ (xs : List End). IsFront Ends v ds ls xs c.args.cursor.now rest) (sym ends)
          (front-end c.parts.behind v ds ls es c.args.cursor.now c.parts.cursor rest c.parts.invariant.read e end);
      count = c.parts.invariant.count;
    }

pub returns-in-Node : goal.returns-in-Node
returns-in-Node c =
    let v = c.in_ok-version.version in
    let rest = c.read_part.new.cursor in
    let P : PredOrLater → Type 0 = λ s. kept_part c.parts.behind v c.parts.cursor ≡ Ok (pred_or_later_of s, rest) in
    let last = subst (λ (l : LineOrLater). P (parts.Later l)) c.in-Later-later.is
    (subst P c.in-Later.is c.in_ok-tree.ensures) in
    let first = subst (λ (e : EndOrNode). P (parts.Later (later.Later e))) c.in-Node.is last in
    let b : Front = record {
      version = v;
      definitions = c.parts.definitions;
      lines = c.parts.lines;
      ends = c.parts.ends;
      before = c.left-count.result - c.left.result;
      first = c.in-Node.first;
    } in
    front-node c.parts.behind v (map definition_of c.parts.definitions.items)
    c.parts.lines.items (map end_of c.parts.ends.items) c.args.cursor.now c.parts.cursor rest c.parts.invariant.read b
    refl refl refl refl (omega (arith, c.left-count.ensures, c.left.ensures)) first
