-- Terms and atoms are lawful: what is read is spelled so, what is spelled is read, and a fault is exact.
use Rattle.std.proofs.Common.{◌≡◌, ℕ, zero, suc, ◌≤◌, Bool, true, false, List, [], ◌∷◌, ◌++◌, length, refl, ap, subst}
use Rattle.std.proofs.Common.{◌∙◌, arith, inl, inr, ◌⊎◌}
use Rattle.std.specs.Prelude.{codes}
use Rattle.cyc_lex.specs.Word.{Word}
use Rattle.cyc_lex.proofs.Letters.{letters-name}
use Rattle.cyc_grammar.specs.Syntax.{one, seq, alt, fits_alt, after, is_one}
use Rattle.cyc_grammar.specs.Classes.{number, is_free_name}
use Rattle.cyc_grammar.proofs.Laws.{Lawful, Stops, Begins, Begins-append, BeginsNot, BeginsNot-append, ClassLaw}
use Rattle.cyc_grammar.proofs.Laws.{one-law, seq-law, shaped-law, alt-law, after-law, before-law, Stops-never}
use Rattle.cyc_grammar.proofs.ClassLaws.{symbol-law, name-law, number-law}
use Rattle.heap_syntax.specs.Grammar.{Any}
use Rattle.heap_syntax.specs.Words.{equal, comma, opening, closing, dollar, query}
use Rattle.fo_syntax.specs.declared.terms.bracket.Awaited.{Awaited}
use Rattle.fo_syntax.specs.declared.terms.bracket.Awaited.TheVariants.{First, Next, Nothing}
use Rattle.fo_syntax.specs.Words.{reserved, free_name}
use Rattle.fo_syntax.specs.Steps.{fits_steps, option}
use Rattle.fo_syntax.specs.Trees.{Sign, Variable, Local, Apply, AreTerms, Atom, Equation, Predicate}
use Rattle.fo_syntax.specs.Brackets.{Mark, Leaf, Opening, Closing, mark_of, brackets, counted}
use Rattle.fo_syntax.specs.Grammar.{to_leaf, from_leaf, IsLeaf, to_variable, from_variable, IsVariable, leaf, to_head}
use Rattle.fo_syntax.specs.Grammar.{from_head, IsHead, named, head, to_mark, from_mark, first_mark, next_mark, mark}
use Rattle.fo_syntax.specs.Grammar.{closed_in, within, marks, to_application, from_application, IsApplication}
use Rattle.fo_syntax.specs.Grammar.{application, to_term, from_term, IsTerm, term, Sides, to_atom, equated, from_atom}
use Rattle.fo_syntax.specs.Grammar.{IsAtom, atom}
use Rattle.fo_syntax.proofs.StepLaws.{StepsLaw, steps-law, option-law}
use Rattle.fo_syntax.proofs.BracketLaws.{total, counts-again, levels, Undone, undone-end, undone-closing, undone-leaf}
use Rattle.fo_syntax.proofs.BracketLaws.{undone-opening, Inside, inside}

-- ---- words

pub free_name-law : ClassLaw free_name
unfolding is_free_name
free_name-law = name-law reserved (codes "p") (rw (letters-name (codes "p") refl) refl)

-- ---- variables

leaf-back : (x : ℕ ⊎ ℕ) → (from_leaf (to_leaf x) ≡ x) × IsLeaf (to_leaf x)
leaf-back (inl n) = (refl, tt)
leaf-back (inr n) = (refl, tt)

leaf-here : (s : Sign) → IsLeaf s → to_leaf (from_leaf s) ≡ s
leaf-here (Variable n) h = refl
leaf-here (Local n) h = refl
leaf-here (Apply name n) h = absurd h

variable-here : (s : Sign) → IsVariable s → to_variable (from_variable s) ≡ s
variable-here (Variable n) h = refl
variable-here (Local n) h = absurd h
variable-here (Apply name n) h = absurd h

pub leaf-law : (b : Bool) → Lawful (leaf b)
unfolding leaf
leaf-law true =
    shaped-law {A = ℕ ⊎ ℕ} to_leaf from_leaf IsLeaf _ (λ x f. leaf-back x) leaf-here
    (alt-law (is_one dollar) (after dollar (one number)) (after query (one number)) (λ n f. refl) (λ n f. refl)
    (after-law dollar (one number) (symbol-law _) (one-law number number-law))
    (after-law query (one number) (symbol-law _) (one-law number number-law)))
leaf-law false = shaped-law {A = ℕ} to_variable from_variable IsVariable _ (λ x f. (refl, tt)) variable-here
    (after-law dollar (one number) (symbol-law _) (one-law number number-law))

pub leaf-is : (b : Bool) (s : Sign) → (leaf b).fits s → IsLeaf s
unfolding leaf
leaf-is true s f = f.0
leaf-is false (Variable n) f = tt
leaf-is false (Local n) f = absurd f.0
leaf-is false (Apply name n) f = absurd f.0

pub leaf-closed : (b : Bool) (s : Sign) (ts : List Word) → Stops ((leaf b).more s) ts
unfolding leaf
leaf-closed true (Variable n) ts = Stops-never ts
leaf-closed true (Local n) ts = Stops-never ts
leaf-closed true (Apply name n) ts = Stops-never ts
leaf-closed false s ts = Stops-never ts

-- what "$" and "?" do not pass, no variable begins with
leaf-not : (test : Word → Bool) → test (dollar.word tt) ≡ false → test (query.word tt) ≡ false → (b : Bool) (s : Sign)
    → (leaf b).fits s → BeginsNot test ((leaf b).words s)
unfolding leaf
leaf-not test d q true (Variable n) f = d
leaf-not test d q true (Local n) f = q
leaf-not test d q true (Apply name n) f = absurd f.0
leaf-not test d q false s f = d

leaf-some : (b : Bool) (s : Sign) → (leaf b).fits s → 1 ≤ length ((leaf b).words s)
unfolding leaf
leaf-some true (Variable n) f = omega arith
leaf-some true (Local n) f = omega arith
leaf-some true (Apply name n) f = absurd f.0
leaf-some false s f = omega arith

zero-fits : (b : Bool) → (leaf b).fits (Variable 0)
unfolding leaf
zero-fits true = (tt, omega arith)
zero-fits false = (tt, omega arith)

-- ---- what may come within an application

named-law : Lawful named
unfolding named
named-law = before-law (one free_name) opening (symbol-law _) (one-law free_name free_name-law) (λ x f. refl)

named-starts : (s : List ℕ) → named.fits s → Begins (is_one free_name) (named.words s)
unfolding named
named-starts s f = rw (free_name-law.value s f) refl

-- a name begins with no symbol
named-not : (s : List ℕ) → BeginsNot (is_one closing) (named.words s)
unfolding named
named-not s = refl

named-closed : (s : List ℕ) (ts : List Word) → Stops (named.more s) ts
unfolding named
named-closed s ts = Stops-never ts

named-some : (s : List ℕ) → 1 ≤ length (named.words s)
unfolding named
named-some s = omega arith

head-back : (x : List ℕ ⊎ Sign) → (from_head (to_head x) ≡ x) × IsHead (to_head x)
head-back (inl name) = (refl, tt)
head-back (inr s) = (refl, tt)

head-here : (m : Mark) → IsHead m → to_head (from_head m) ≡ m
head-here (Leaf s) h = refl
head-here (Opening name) h = refl
head-here Closing h = absurd h

head-law : (b : Bool) → Lawful (head b)
unfolding head
head-law b = shaped-law {A = List ℕ ⊎ Sign} to_head from_head IsHead _ (λ x f. head-back x) head-here
    (alt-law (is_one free_name) named (leaf b) named-starts (leaf-not (is_one free_name) refl refl b) named-law
    (leaf-law b))

head-is : (b : Bool) (m : Mark) → (head b).fits m → IsHead m
unfolding head
head-is b m f = f.0

head-closed : (b : Bool) (m : Mark) (ts : List Word) → Stops ((head b).more m) ts
unfolding head named
head-closed b (Leaf s) ts = leaf-closed b s ts
head-closed b (Opening name) ts = Stops-never ts
head-closed b Closing ts = Stops-never ts

head-not : (b : Bool) (m : Mark) → (head b).fits m → BeginsNot (is_one closing) ((head b).words m)
unfolding head
head-not b (Leaf s) f = leaf-not (is_one closing) refl refl b s f.1
head-not b (Opening name) f = named-not name
head-not b Closing f = absurd f.0

head-some : (b : Bool) (m : Mark) → (head b).fits m → 1 ≤ length ((head b).words m)
unfolding head
head-some b (Leaf s) f = leaf-some b s f.1
head-some b (Opening name) f = named-some name
head-some b Closing f = absurd f.0

head-zero : (b : Bool) → (head b).fits (Leaf (Variable 0))
unfolding head
head-zero b = (tt, zero-fits b)

mark-back : (b : Bool) (x : Unit {0} ⊎ Mark) → fits_alt (one closing) (head b) x → from_mark (to_mark x) ≡ x
mark-back b (inl u) f = refl
mark-back b (inr (Leaf s)) f = refl
mark-back b (inr (Opening name)) f = refl
mark-back b (inr Closing) f = absurd (head-is b Closing f)

next-back : (b : Bool) (x : Unit {0} ⊎ Mark) → fits_alt (one closing) (after comma (head b)) x
    → from_mark (to_mark x) ≡ x
next-back b (inl u) f = refl
next-back b (inr m) f = mark-back b (inr m) f

mark-here : (m : Mark) → to_mark (from_mark m) ≡ m
mark-here (Leaf s) = refl
mark-here (Opening name) = refl
mark-here Closing = refl

first-law : (b : Bool) → Lawful (first_mark b)
unfolding first_mark
first-law b = shaped-law {A = Unit {0} ⊎ Mark} to_mark from_mark Any _ (λ x f. (mark-back b x f, tt))
    (λ m h. mark-here m) (alt-law (is_one closing) (one closing) (head b) (λ u f. refl) (head-not b)
    (one-law closing (symbol-law _)) (head-law b))

next-law : (b : Bool) → Lawful (next_mark b)
unfolding next_mark
next-law b = shaped-law {A = Unit {0} ⊎ Mark} to_mark from_mark Any _ (λ x f. (next-back b x f, tt))
    (λ m h. mark-here m) (alt-law (is_one closing) (one closing) (after comma (head b)) (λ u f. refl) (λ m f. refl)
    (one-law closing (symbol-law _)) (after-law comma (head b) (symbol-law _) (head-law b)))

first-closed : (b : Bool) (m : Mark) (ts : List Word) → Stops ((first_mark b).more m) ts
unfolding first_mark
first-closed b (Leaf s) ts = head-closed b (Leaf s) ts
first-closed b (Opening name) ts = head-closed b (Opening name) ts
first-closed b Closing ts = Stops-never ts

next-closed : (b : Bool) (m : Mark) (ts : List Word) → Stops ((next_mark b).more m) ts
unfolding next_mark
next-closed b (Leaf s) ts = head-closed b (Leaf s) ts
next-closed b (Opening name) ts = head-closed b (Opening name) ts
next-closed b Closing ts = Stops-never ts

first-some : (b : Bool) (m : Mark) → (first_mark b).fits m → 1 ≤ length ((first_mark b).words m)
unfolding first_mark
first-some b (Leaf s) f = head-some b (Leaf s) f.1
first-some b (Opening name) f = head-some b (Opening name) f.1
first-some b Closing f = omega arith

next-some : (b : Bool) (m : Mark) → 1 ≤ length ((next_mark b).words m)
unfolding next_mark
next-some b (Leaf s) = omega arith
next-some b (Opening name) = omega arith
next-some b Closing = omega arith

first-closing : (b : Bool) → (first_mark b).fits Closing
unfolding first_mark
first-closing b = (tt, tt)

next-closing : (b : Bool) → (next_mark b).fits Closing
unfolding next_mark
next-closing b = (tt, tt)

-- so many closing brackets
abbrev ended : ℕ → List Mark
ended zero = []
ended (suc n) = Closing ∷ ended n

ended-fits : (b : Bool) (n : ℕ) → fits_steps (within b) (closed_in n) (ended n)
ended-fits b zero = refl
ended-fits b (suc n) = (refl, (next-closing b, ended-fits b n))

within-law : (b : Bool) → StepsLaw (within b)
within-law b = record {
  law = law;
  closed = λ s m ts f. closed s m ts;
  some = some;
  finish = finish;
  finished = finished;
}
  where
    law : (s : Awaited) → Lawful (mark b s)
    law (First n) = first-law b
    law (Next n) = next-law b
    law Nothing = next-law b

    closed : (s : Awaited) (m : Mark) (ts : List Word) → Stops ((mark b s).more m) ts
    closed (First n) m ts = first-closed b m ts
    closed (Next n) m ts = next-closed b m ts
    closed Nothing m ts = next-closed b m ts

    some : (s : Awaited) (m : Mark) → (mark b s).fits m → 1 ≤ length ((mark b s).words m)
    some (First n) m f = first-some b m f
    some (Next n) m f = next-some b m
    some Nothing m f = next-some b m

    finish : Awaited → List Mark
    finish (First n) = Closing ∷ ended n
    finish (Next n) = Closing ∷ ended n
    finish Nothing = []

    finished : (s : Awaited) → fits_steps (within b) s (finish s)
    finished (First n) = (refl, (first-closing b, ended-fits b n))
    finished (Next n) = (refl, (next-closing b, ended-fits b n))
    finished Nothing = refl

marks-law : (b : Bool) → Lawful (marks b)
unfolding marks
marks-law b = steps-law (within b) (within-law b) (First 0)

-- ---- brackets are undone

mark-leaf : (b : Bool) (a : Awaited) (s : Sign) → (mark b a).fits (Leaf s) → IsLeaf s
unfolding first_mark next_mark head
mark-leaf b (First n) s f = leaf-is b s f.1.1
mark-leaf b (Next n) s f = leaf-is b s f.1.1
mark-leaf b Nothing s f = leaf-is b s f.1.1

leaf-mark : (s : Sign) → IsLeaf s → mark_of s ≡ Leaf s
leaf-mark (Variable n) h = refl
leaf-mark (Local n) h = refl
leaf-mark (Apply name n) h = absurd h

undone : (b : Bool) (a : Awaited) (ms : List Mark) → fits_steps (within b) a ms → Undone ms (levels a)
undone b (First n) [] f = absurd cc
undone b (Next n) [] f = absurd cc
undone b Nothing [] f = undone-end
undone b (First n) (Leaf s ∷ ms) f = undone-leaf s ms n (leaf-mark s (mark-leaf b (First n) s f.1.0))
    (undone b (Next n) ms f.1.1)
undone b (First n) (Opening name ∷ ms) f = undone-opening name ms n (undone b (First (suc n)) ms f.1.1)
undone b (First zero) (Closing ∷ ms) f = undone-closing ms 0 (undone b Nothing ms f.1.1)
undone b (First (suc n)) (Closing ∷ ms) f = undone-closing ms (suc n) (undone b (Next n) ms f.1.1)
undone b (Next n) (Leaf s ∷ ms) f = undone-leaf s ms n (leaf-mark s (mark-leaf b (Next n) s f.1.0))
    (undone b (Next n) ms f.1.1)
undone b (Next n) (Opening name ∷ ms) f = undone-opening name ms n (undone b (First (suc n)) ms f.1.1)
undone b (Next zero) (Closing ∷ ms) f = undone-closing ms 0 (undone b Nothing ms f.1.1)
undone b (Next (suc n)) (Closing ∷ ms) f = undone-closing ms (suc n) (undone b (Next n) ms f.1.1)
undone b Nothing (m ∷ ms) f = absurd cc

marks-inside : (b : Bool) (ms : List Mark) → (marks b).fits ms → Inside ms
unfolding marks
marks-inside b ms f = inside ms (undone b (First 0) ms f)

-- ---- terms

pub application-law : (b : Bool) → Lawful (application b)
unfolding application
application-law b =
    shaped-law {A = List ℕ × List Mark} to_application from_application IsApplication _
    (λ p f. there p (marks-inside b p.1 f.1)) here
    (seq-law named (marks b) named-law (marks-law b) (λ x y r fx fy h. named-closed x ((marks b).words y ++ r)))
  where
    there : (p : List ℕ × List Mark) → Inside p.1 → (from_application (to_application p) ≡ p)
        × IsApplication (to_application p)
    there p h = (ap (λ x. (p.0, x)) h.again, h.terms)

    here : (ss : List Sign) → IsApplication ss → to_application (from_application ss) ≡ ss
    here [] h = absurd h
    here (Variable n ∷ ss) h = absurd h
    here (Local n ∷ ss) h = absurd h
    here (Apply name n ∷ ss) h =
        let size : AreTerms (total (n ∷ [])) ss = subst (λ k. AreTerms k ss) (omega arith) h in
        let back : counted (brackets (n ∷ []) ss) ≡ (ss, n ∷ []) = counts-again ss (n ∷ []) size in
        rw back refl

pub application-is : (b : Bool) (t : List Sign) → (application b).fits t → IsApplication t
unfolding application
application-is b t f = f.0

pub application-starts : (b : Bool) (t : List Sign) → (application b).fits t
    → Begins (is_one free_name) ((application b).words t)
unfolding application
application-starts b t f = Begins-append (is_one free_name) (named.words (from_application t).0)
    ((marks b).words (from_application t).1) (named-starts (from_application t).0 f.1.0)

pub application-closed : (b : Bool) (t : List Sign) (ts : List Word) → Stops ((application b).more t) ts
unfolding application marks
application-closed b t ts = Stops-never ts

pub applied-term : (t : List Sign) → IsApplication t → (from_term t ≡ inl t) × IsTerm t
applied-term [] h = absurd h
applied-term (Variable n ∷ ss) h = absurd h
applied-term (Local n ∷ ss) h = absurd h
applied-term (Apply name n ∷ ss) h = (refl, subst (λ k. AreTerms k ss) (omega arith) h)

term-back : (b : Bool) (x : List Sign ⊎ Sign) → fits_alt (application b) (leaf b) x
    → (from_term (to_term x) ≡ x) × IsTerm (to_term x)
term-back b (inl t) f = applied-term t (application-is b t f)
term-back b (inr s) f = leafy s (leaf-is b s f)
  where
    leafy : (s : Sign) → IsLeaf s → (from_term (s ∷ []) ≡ inr s) × IsTerm (s ∷ [])
    leafy (Variable n) h = (refl, tt)
    leafy (Local n) h = (refl, tt)
    leafy (Apply name n) h = absurd h

term-here : (t : List Sign) → IsTerm t → to_term (from_term t) ≡ t
term-here [] h = absurd h
term-here (Variable n ∷ []) h = refl
term-here (Variable n ∷ s ∷ ss) h = absurd h
term-here (Local n ∷ []) h = refl
term-here (Local n ∷ s ∷ ss) h = absurd h
term-here (Apply name n ∷ ss) h = refl

pub term-law : (b : Bool) → Lawful (term b)
unfolding term
term-law b =
    shaped-law {A = List Sign ⊎ Sign} to_term from_term IsTerm _ (term-back b) term-here
    (alt-law (is_one free_name) (application b) (leaf b) (application-starts b)
    (leaf-not (is_one free_name) refl refl b) (application-law b) (leaf-law b))

pub term-closed : (b : Bool) (t : List Sign) (ts : List Word) → Stops ((term b).more t) ts
unfolding term
term-closed b [] ts = application-closed b [] ts
term-closed b (Variable n ∷ ss) ts = leaf-closed b (Variable n) ts
term-closed b (Local n ∷ ss) ts = leaf-closed b (Local n) ts
term-closed b (Apply name n ∷ ss) ts = application-closed b (Apply name n ∷ ss) ts

-- ---- atoms

atom-back : (b : Bool) (x : Sides) → fits_alt (seq (application b) (option equal (term b)))
    (seq (leaf b) (after equal (term b))) x → (from_atom (to_atom x) ≡ x) × IsAtom (to_atom x)
atom-back b (inl (t, inl u)) f = (refl, tt)
atom-back b (inl (t, inr u)) f = let p = term-back b (inl t) f.0 in (ap (equated u) p.0, p.1)
atom-back b (inr (s, u)) f = let p = term-back b (inr s) f.0 in (ap (equated u) p.0, p.1)

atom-here : (a : Atom) → IsAtom a → to_atom (from_atom a) ≡ a
atom-here (Predicate t) h = refl
atom-here (Equation t u) h = joined (from_term t) ∙ ap (λ x. Equation x u) (term-here t h)
  where
    joined : (x : List Sign ⊎ Sign) → to_atom (equated u x) ≡ Equation (to_term x) u
    joined (inl y) = refl
    joined (inr s) = refl

pub atom-law : (b : Bool) → Lawful (atom b)
unfolding atom
atom-law b =
    shaped-law {A = Sides} to_atom from_atom IsAtom _ (atom-back b) atom-here
    (alt-law (is_one free_name) (seq (application b) (option equal (term b))) (seq (leaf b) (after equal (term b)))
    (λ x f. starts x f.0) (λ x f. BeginsNot-append (is_one free_name) _ _
    (leaf-not (is_one free_name) refl refl b x.0 f.0))
    (seq-law (application b) (option equal (term b)) (application-law b)
    (option-law equal (term b) (symbol-law _) (term-law b))
    (λ x y r fx fy h. application-closed b x ((option equal (term b)).words y ++ r)))
    (seq-law (leaf b) (after equal (term b)) (leaf-law b) (after-law equal (term b) (symbol-law _) (term-law b))
    (λ x y r fx fy h. leaf-closed b x ((after equal (term b)).words y ++ r))))
  where
    starts : (x : List Sign × (Unit {0} ⊎ List Sign)) → (application b).fits x.0
        → Begins (is_one free_name) ((seq (application b) (option equal (term b))).words x)
    starts x f = Begins-append (is_one free_name) ((application b).words x.0) ((option equal (term b)).words x.1)
        (application-starts b x.0 f)

-- an atom goes on at "=" alone
pub atom-end : (b : Bool) (a : Atom) (d : Word) → is_one equal d ≡ false → (atom b).more a d ≡ false
unfolding atom
atom-end b (Predicate t) d h = h
atom-end b (Equation t u) d h = sided (from_term t)
  where
    sided : (x : List Sign ⊎ Sign) → (alt (is_one free_name) (seq (application b) (option equal (term b)))
        (seq (leaf b) (after equal (term b)))).more (equated u x) d ≡ false
    sided (inl y) = term-closed b u (d ∷ [])
    sided (inr s) = term-closed b u (d ∷ [])

-- what neither a name nor "$" nor "?" passes, no term begins with
application-not : (test : Word → Bool) → ((s : List ℕ) → is_free_name reserved s ≡ true
    → test (free_name.word s) ≡ false) → (b : Bool) (t : List Sign) → (application b).fits t
    → BeginsNot test ((application b).words t)
unfolding application named
application-not test none b t f = BeginsNot-append test (named.words (from_application t).0)
    ((marks b).words (from_application t).1) (none (from_application t).0 f.1.0)

pub term-not : (test : Word → Bool) → test (dollar.word tt) ≡ false → test (query.word tt) ≡ false
    → ((s : List ℕ) → is_free_name reserved s ≡ true → test (free_name.word s) ≡ false) → (b : Bool) (t : List Sign)
    → (term b).fits t → BeginsNot test ((term b).words t)
unfolding term
term-not test d q none b [] f = absurd f.0
term-not test d q none b (Variable n ∷ ss) f = leaf-not test d q b (Variable n) f.1
term-not test d q none b (Local n ∷ ss) f = leaf-not test d q b (Local n) f.1
term-not test d q none b (Apply name n ∷ ss) f = application-not test none b (Apply name n ∷ ss) f.1

pub atom-not : (test : Word → Bool) → test (dollar.word tt) ≡ false → test (query.word tt) ≡ false
    → ((s : List ℕ) → is_free_name reserved s ≡ true → test (free_name.word s) ≡ false) → (b : Bool) (a : Atom)
    → (atom b).fits a → BeginsNot test ((atom b).words a)
unfolding atom
atom-not test d q none b (Predicate t) f = BeginsNot-append test ((application b).words t) []
    (application-not test none b t f.1.0)
atom-not test d q none b (Equation t u) f = sided (from_term t) f.1
  where
    sided : (x : List Sign ⊎ Sign) → fits_alt (seq (application b) (option equal (term b)))
        (seq (leaf b) (after equal (term b))) (equated u x) → BeginsNot test
        ((alt (is_one free_name) (seq (application b) (option equal (term b)))
        (seq (leaf b) (after equal (term b)))).words (equated u x))
    sided (inl y) f = BeginsNot-append test ((application b).words y) (equal.word tt ∷ (term b).words u)
        (application-not test none b y f.0)
    sided (inr s) f = BeginsNot-append test ((leaf b).words s) (equal.word tt ∷ (term b).words u)
        (leaf-not test d q b s f.0)
