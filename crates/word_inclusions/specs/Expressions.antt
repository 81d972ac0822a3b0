-- Regular expressions as plain data, and what is computed of one.
use Rattle.std.specs.Prelude.{ℕ, zero, suc, ◌-◌, ◌≡◌, Bool, true, false, ◌&&◌, ◌||◌, nat_eq, if◌then◌else◌}
use Rattle.std.proofs.Common.{refl, ap}
use Rattle.std.specs.Coded.{Coded, code_by, coded×}
use Rattle.rule_logics.specs.Trees.{Tree, Leaf, Fork, same_tree, coded_tree}
use Rattle.word_inclusions.specs.declared.expression.Regex.{Regex}
use Rattle.word_inclusions.specs.declared.expression.Regex.TheVariants as regex

pub data Expression : Type 0 where
  Zero : Expression
  One : Expression
  Letter : ℕ → Expression
  Sum : Expression → Expression → Expression
  Product : Expression → Expression → Expression
  Star : Expression → Expression

-- an expression without where its parts lie in memory
abbrev pub expression_of : Regex → Expression
expression_of regex.Zero = Zero
expression_of regex.One = One
expression_of (regex.Letter a) = Letter a
expression_of (regex.Sum' p e q f) = Sum (expression_of e) (expression_of f)
expression_of (regex.Product' p e q f) = Product (expression_of e) (expression_of f)
expression_of (regex.Star' p e) = Star (expression_of e)

-- ---- as trees, by which expressions are told apart

abbrev pub tree_of : Expression → Tree
tree_of Zero = Leaf 0
tree_of One = Leaf 1
tree_of (Sum e f) = Fork 0 (tree_of e) (tree_of f)
tree_of (Product e f) = Fork 1 (tree_of e) (tree_of f)
tree_of (Star e) = Fork 2 (Leaf 0) (tree_of e)
tree_of (Letter a) = Fork 3 (Leaf 0) (Leaf a)

abbrev pub of_tree : Tree → Expression
of_tree (Leaf zero) = Zero
of_tree (Fork zero s t) = Sum (of_tree s) (of_tree t)
of_tree (Fork (suc zero) s t) = Product (of_tree s) (of_tree t)
of_tree (Fork (suc (suc zero)) s t) = Star (of_tree t)
of_tree (Fork (suc (suc (suc n))) s (Leaf a)) = Letter a
of_tree _ = One

pub given_back : (e : Expression) → of_tree (tree_of e) ≡ e
given_back Zero = refl
given_back One = refl
given_back (Letter a) = refl
given_back (Sum e f) = λ i. Sum (given_back e i) (given_back f i)
given_back (Product e f) = λ i. Product (given_back e i) (given_back f i)
given_back (Star e) = ap Star (given_back e)

-- whether two expressions are one as they stand
abbrev pub same : Expression → Expression → Bool
same e f = same_tree (tree_of e) (tree_of f)

-- whether the empty word is one of its words
abbrev pub nullable : Expression → Bool
nullable Zero = false
nullable One = true
nullable (Letter a) = false
nullable (Sum e f) = nullable e || nullable f
nullable (Product e f) = nullable e && nullable f
nullable (Star e) = true

-- ---- derivatives

-- e, and then k
abbrev pub followed_by : Expression → Expression → Expression
followed_by e One = e
followed_by e k = Product e k

-- whether x is one of the alternatives, which stand in a list of sums
abbrev pub is_among : Expression → Expression → Bool
is_among x (Sum y others) = same x y || is_among x others
is_among x _ = false

-- the alternatives, and x if it is none of them
abbrev pub with : Expression → Expression → Expression
with x others = if is_among x others then others else Sum x others

-- what may follow a letter in a word of e and then k, before other alternatives (Brzozowski 1964, Antimirov 1996)
abbrev pub partials : ℕ → Expression → Expression → Expression → Expression
partials a Zero k others = others
partials a One k others = others
partials a (Letter b) k others = if nat_eq a b then with k others else others
partials a (Sum e f) k others = partials a e k (partials a f k others)
partials a (Product e f) k others = partials a e (followed_by f k)
    (if nullable e then partials a f k others else others)
partials a (Star e) k others = partials a e (followed_by (Star e) k) others

-- the derivative: what may follow the letter in a word of e
abbrev pub derivative : ℕ → Expression → Expression
derivative a e = partials a e One Zero

-- ---- inclusions

-- `left |- right`
pub record Sides : Type 0 where
  pub left : Expression
  pub right : Expression

abbrev pub sides : Expression → Expression → Sides
sides l r = record { left = l; right = r }

abbrev pub same_sides : Sides → Sides → Bool
same_sides s t = same s.left t.left && same s.right t.right

abbrev pub coded_sides : Coded Sides
coded_sides =
    code_by (Tree × Tree) (coded× coded_tree coded_tree) (λ s. (tree_of s.left, tree_of s.right))
    (λ t. sides (of_tree t.0) (of_tree t.1)) (λ s. λ i. sides (given_back s.left i) (given_back s.right i))

-- ---- places: the left side is a list of factors, as `e . (f . k)` is

abbrev pub is_star : Expression → Bool
is_star (Star e) = true
is_star e = false

-- whether the factor at this place is a star
abbrev pub is_star_at : Expression → ℕ → Bool
is_star_at (Product e f) k = if nat_eq k 0 then is_star e else is_star_at f (k - 1)
is_star_at e k = nat_eq k 0 && is_star e
