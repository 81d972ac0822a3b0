use Rattle.std.proofs.Common.{◌≡◌, ◌∷◌, subst, sym, ap, ◌∙◌}
use Rattle.std.specs.Prelude.{map}
use Rattle.cyc_lex.specs.Writing.{write_all}
use Rattle.cyc_grammar.proofs.WrittenTexts.{wrote-both, wrote-behind, on-ok}
use Rattle.heap_syntax.specs.Words.{equal}
use Rattle.fo_syntax.specs.Trees.{sign_of, atom_of}
use Rattle.fo_syntax.specs.Grammar.{term, atom}
use Rattle.fo_syntax.proofs.AtomTexts.{sides, alone}
use Rattle.fo_syntax.proofs.terms.write_terms.write_atom.Goals as goal

pub write_term-requires : goal.write_term-requires
write_term-requires c =
    let fit = subst (λ x. (atom c.args.locals).fits (atom_of x)) c.in-Equation.is c.requires in
    rw c.deref.ensures.value ((sides c.args.locals (map sign_of c.in-Equation.left.items)
    (map sign_of c.in-Equation.right.items) fit).left)

pub write_term-requires-in-Predicate : goal.write_term-requires-in-Predicate
write_term-requires-in-Predicate c =
    let fit = subst (λ x. (atom c.args.locals).fits (atom_of x)) c.in-Predicate.is c.requires in
    rw c.deref-in-Predicate.ensures.value ((alone c.args.locals (map sign_of c.in-Predicate.term.items) fit).fits)

pub returns-in_ok-symbol-in-Equation : goal.returns-in_ok-symbol-in-Equation
returns-in_ok-symbol-in-Equation c =
    let t = map sign_of c.in-Equation.left.items in
    let u = map sign_of c.in-Equation.right.items in
    let fit = subst (λ x. (atom c.args.locals).fits (atom_of x)) c.in-Equation.is c.requires in
    let first : c.write_term.new.writer ≡ write_all c.args.writer.now ((term c.args.locals).words t)
    = c.in_ok-write_term-in-Equation.ensures ∙ ap (λ ss.
    write_all c.args.writer.now ((term c.args.locals).words (map sign_of ss))) c.deref.ensures.value in
    on-ok c.write_term-in-Equation.result (λ e.
    let second : c.write_term-in-Equation.new.writer ≡ write_all c.symbol.new.self ((term c.args.locals).words u) = e
    ∙ ap (λ ss. write_all c.symbol.new.self ((term c.args.locals).words (map sign_of ss)))
    c.deref-in-Equation.ensures.value in
    wrote-both c.args.writer.now c.write_term.new.writer c.write_term-in-Equation.new.writer
    ((term c.args.locals).words t) (equal.word tt ∷ (term c.args.locals).words u) first
    (wrote-behind c.write_term.new.writer c.symbol.new.self c.write_term-in-Equation.new.writer (equal.word tt)
    ((term c.args.locals).words u) c.in_ok-symbol-in-Equation.ensures.ok second)
    ∙ ap (write_all c.args.writer.now) (sym ((sides c.args.locals t u fit).words))
    ∙ ap (λ x. write_all c.args.writer.now ((atom c.args.locals).words (atom_of x))) (sym c.in-Equation.is))
    c.write_term-in-Equation.ensures

pub returns-in-Predicate : goal.returns-in-Predicate
returns-in-Predicate c =
    let t = map sign_of c.in-Predicate.term.items in
    let fit = subst (λ x. (atom c.args.locals).fits (atom_of x)) c.in-Predicate.is c.requires in
    on-ok c.write_term-in-Predicate.result (λ e.
    e ∙ ap (λ ss. write_all c.args.writer.now ((term c.args.locals).words (map sign_of ss)))
    c.deref-in-Predicate.ensures.value
    ∙ ap (write_all c.args.writer.now) (sym ((alone c.args.locals t fit).words))
    ∙ ap (λ x. write_all c.args.writer.now ((atom c.args.locals).words (atom_of x))) (sym c.in-Predicate.is))
    c.write_term-in-Predicate.ensures
