-- A tree fits the grammar in one way.
use Rattle.std.specs.Prelude.{◌≡◌, ℕ, Bool, true, false, List, [], ◌∷◌}
use Rattle.std.specs.Coded.{Coded-set, coded_bool, ×_prop, Unit-prop, le_prop}
use Rattle.cyc_grammar.specs.Syntax.{Syntax, Class, after, list1, uncons, fits_many}
use Rattle.cyc_grammar.specs.Classes.{is_free_name}
use Rattle.heap_syntax.specs.Words.{reserved, or_word, comma, colon, semicolon, star, bar, closing, closing_brace}
use Rattle.heap_syntax.specs.Grammar as shared
use Rattle.heap_syntax.specs.Grammar.{some_heap}
use Rattle.heap_syntax.specs.declared.definitions.tree.TermTree.TheVariants.{Nil, Univ, Exist}
use Rattle.heap_syntax.specs.DefinitionTrees.{Cell, Predicate}
use Rattle.heap_syntax.specs.DefinitionGrammar.{term, uterm, terms, pures, fields, arguments, spatial, spatials, heap}
use Rattle.heap_syntax.specs.DefinitionGrammar.{heaps, cases, definition, some_pure, some_spatial, terms_of}
use Rattle.heap_syntax.specs.declared.version.Version.{Version}
use Rattle.heap_syntax.specs.LineGrammar.{has_ends}
use Rattle.heap_syntax.specs.EndGrammar as endings
use Rattle.heap_syntax.specs.NumberedEnds.{end, ends}

abbrev pub HasOneFit : {T : Type 0} → Syntax T → Type 0
HasOneFit {T = T} s = (t : T) → IsProp (s.fits t)

pub many-fit : {A : Type 0} (a : Syntax A) → HasOneFit a → (xs : List A) → IsProp (fits_many a xs)
many-fit a p [] = Unit-prop
many-fit a p (x ∷ xs) = ×_prop (p x) (many-fit a p xs)

pub list-fit : {A : Type 0} (d : A) (c : Class (Unit {0})) (a : Syntax A) → HasOneFit a → HasOneFit (list1 d c a)
list-fit d c a p xs = ×_prop le_prop (×_prop (p (uncons d xs).0) (many-fit (after c a) p (uncons d xs).1))

pub listed-fit : {A : Type 0} (d : A) (c behind : Class (Unit {0})) (a : Syntax A) → HasOneFit a
    → HasOneFit (shared.listed d c behind a)
unfolding shared.listed
listed-fit d c behind a p xs = ×_prop le_prop (×_prop (p (uncons d xs).0) (many-fit (after c a) p (uncons d xs).1))

name-fit : (s : List ℕ) → IsProp (is_free_name reserved s ≡ true)
name-fit s = Coded-set coded_bool (is_free_name reserved s) true

-- ---- terms and atoms

term-fit : HasOneFit term
unfolding term
term-fit Nil = ×_prop Unit-prop Unit-prop
term-fit (Univ n) = ×_prop Unit-prop le_prop
term-fit (Exist n) = ×_prop Unit-prop le_prop

pub uterm-fit : HasOneFit uterm
unfolding uterm
uterm-fit Nil = ×_prop Unit-prop Unit-prop
uterm-fit (Univ n) = ×_prop Unit-prop le_prop
uterm-fit (Exist n) = ×_prop (λ a b. absurd a) Unit-prop

terms-fit : (universal : Bool) → HasOneFit (terms universal)
unfolding terms
terms-fit true t = uterm-fit t
terms-fit false t = term-fit t

pub sign-fit : HasOneFit shared.sign
unfolding shared.sign
sign-fit true = ×_prop Unit-prop Unit-prop
sign-fit false = ×_prop Unit-prop Unit-prop

module _ (universal : Bool) where
  pure-fit : HasOneFit (shared.pure (terms universal))
  unfolding shared.pure
  pure-fit x =
      ×_prop Unit-prop (×_prop (terms-fit universal x.left) (×_prop (sign-fit x.is_equation)
      (terms-fit universal x.right)))

  pures-fit : HasOneFit (pures (terms universal))
  unfolding shared.pures shared.pures1
  pures-fit [] = ×_prop Unit-prop Unit-prop
  pures-fit (x ∷ xs) = ×_prop Unit-prop (listed-fit some_pure comma colon (shared.pure (terms universal)) pure-fit
      (x ∷ xs))

  fields-fit : HasOneFit (fields (terms universal))
  unfolding shared.fields
  fields-fit ts = listed-fit Nil comma closing (terms universal) (terms-fit universal) ts

  arguments-fit : HasOneFit (arguments (terms universal))
  unfolding shared.arguments
  arguments-fit [] = ×_prop Unit-prop Unit-prop
  arguments-fit (t ∷ ts) = ×_prop Unit-prop (fields-fit (t ∷ ts))

  spatial-fit : HasOneFit (spatial (terms universal))
  unfolding shared.spatial shared.predicate shared.cell
  spatial-fit (Predicate s ts) = ×_prop Unit-prop (×_prop (name-fit s) (arguments-fit ts))
  spatial-fit (Cell t ts) = ×_prop Unit-prop (×_prop (terms-fit universal t) (fields-fit ts))

  spatials-fit : HasOneFit (spatials (terms universal))
  unfolding shared.spatials shared.spatials1
  spatials-fit [] = ×_prop Unit-prop Unit-prop
  spatials-fit (x ∷ xs) =
      ×_prop Unit-prop (list-fit some_spatial star (spatial (terms universal)) spatial-fit (x ∷ xs))

  pub heap-fit : HasOneFit (heap (terms universal))
  unfolding shared.heap
  heap-fit h = ×_prop Unit-prop (×_prop (pures-fit h.pure) (spatials-fit h.spatial))

pub heaps-fit : (between behind : Class (Unit {0})) → HasOneFit (heaps between behind)
heaps-fit between behind hs = listed-fit some_heap between behind (heap (terms false)) (heap-fit false) hs

-- ---- definitions

pub definition-fit : HasOneFit definition
unfolding definition cases
definition-fit d =
    ×_prop Unit-prop (×_prop (name-fit d.name) (×_prop le_prop (heaps-fit bar closing_brace d.cases)))

-- ---- ends

end-fit : HasOneFit end
unfolding endings.end
end-fit e = ×_prop Unit-prop (×_prop le_prop (heaps-fit or_word semicolon e.disjuncts))

ends_where-fit : (b : Bool) → HasOneFit (endings.ends_where b (terms_of (terms false)) (spatial (terms false)))
ends_where-fit true es = many-fit end end-fit es
ends_where-fit false [] = ×_prop Unit-prop Unit-prop
ends_where-fit false (e ∷ es) = ×_prop (λ a b. absurd a) Unit-prop

pub ends-fit : (version : Version) → HasOneFit (ends version)
unfolding endings.ends
ends-fit version es = ends_where-fit (has_ends version) es
