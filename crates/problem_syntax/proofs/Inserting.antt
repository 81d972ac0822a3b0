-- What is inserted after the first occurrences of some names are the first occurrences of all.
use Rattle.std.proofs.Common.{◌≡◌, ℕ, Bool, true, false, ◌&&◌, ◌||◌, ◌+◌, ◌<◌, take, get_or, List, [], ◌∷◌, ◌++◌, map}
use Rattle.std.proofs.Common.{length, refl, sym, ap, ◌∙◌, if◌then◌else◌}
use Rattle.std.proofs.Math.Bool.{beq}
use Rattle.std.proofs.lemmas.List.{map_push, take_more}
use Rattle.std.specs.List.{list_any}
use Rattle.std.specs.Str.{bytes_eq}
use Rattle.indexmap.specs.IndexSet.{insert_key}
use Rattle.problem_syntax.specs.declared.numbering.names.NameUse.{NameUse}
use Rattle.problem_syntax.specs.Names.{firsts}
use Rattle.problem_syntax.specs.Views as numbers
use Rattle.problem_syntax.proofs.Firsts.{use_eq, inserted-firsts}
use Rattle.problem_syntax.specs.declared.names.names.ProblemName.{ProblemName}
use Rattle.problem_syntax.specs.NameViews.{name_of}

abbrev name_eq : ProblemName → ProblemName → Bool
name_eq a b = bytes_eq a.text.now b.text.now && beq a.primed b.primed

-- the name as `name_numbers` keeps it
abbrev use_of : ProblemName → NameUse
use_of n = record { text = n.text; primed = n.primed }

names-of-uses : (ks : List ProblemName) → map name_of ks ≡ map numbers.name_of (map use_of ks)
names-of-uses [] = refl
names-of-uses (k ∷ ks) = ap (λ ns. name_of k ∷ ns) (names-of-uses ks)

any-use : (n : ProblemName) (ks : List ProblemName)
    → list_any (name_eq n) ks ≡ list_any (use_eq (use_of n)) (map use_of ks)
any-use n [] = refl
any-use n (k ∷ ks) = ap (λ b. name_eq n k || b) (any-use n ks)

inserted-names : (ks : List ProblemName) (n : ProblemName) (b : Bool)
    → map name_of (if b then ks else ks ++ n ∷ []) ≡ map numbers.name_of
    (if b then map use_of ks else map use_of ks ++ use_of n ∷ [])
inserted-names ks n true = names-of-uses ks
inserted-names ks n false =
    map_push name_of ks n ∙ (ap (λ ns. ns ++ name_of n ∷ []) (names-of-uses ks)
    ∙ sym (map_push numbers.name_of (map use_of ks) (use_of n)))

inserted-uses : (ks : List ProblemName) (n : ProblemName)
    → map name_of (insert_key name_eq ks n) ≡ map numbers.name_of (insert_key use_eq (map use_of ks) (use_of n))
inserted-uses ks n =
    inserted-names ks n (list_any (name_eq n) ks)
    ∙ ap (λ (b : Bool). map numbers.name_of (if b then map use_of ks else map use_of ks ++ use_of n ∷ []))
    (any-use n ks)

-- one turn of a loop that inserts names in order
pub inserted-more : (uses : List ProblemName) (i : ℕ) (d : ProblemName) (ks new : List ProblemName) → i < length uses
    → map name_of ks ≡ firsts (map name_of (take i uses)) → new ≡ insert_key name_eq ks (get_or uses i d)
    → map name_of new ≡ firsts (map name_of (take (i + 1) uses))
inserted-more uses i d ks new lt before e =
    let n = get_or uses i d in
    let ns = map name_of (take i uses) in
    ap (map name_of) e
    ∙ (inserted-uses ks n
    ∙ (inserted-firsts (map use_of ks) (use_of n) ns (sym (names-of-uses ks) ∙ before)
    ∙ ap firsts (sym (ap (map name_of) (take_more uses i d lt) ∙ map_push name_of (take i uses) n))))
