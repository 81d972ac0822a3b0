-- One turn of the loops over places.
use Rattle.std.proofs.Common.{◌≡◌, ℕ, suc, ◌+◌, ◌-◌, ◌<◌, List, [], ◌∷◌, ◌++◌, map, Bool, true, false, Some, slice_get}
use Rattle.std.proofs.Common.{length, arith, sym, refl, ap, ◌∙◌, append_assoc, option_map, get_or}
use Rattle.std.proofs.lemmas.Bool.{cond-true, cond-false}
use Rattle.std.proofs.lemmas.List.{map_push}
use Rattle.std.proofs.lemmas.Option.{slice_get-map, slice_get_read}
use Rattle.buchi_core.specs.Forest.{Entry as AgeEntry, is_kept, is_green, event_from, places, settled, renumbered}
use Rattle.buchi_core.specs.Forest.{set_of, parent_of}
use Rattle.buchi_core.specs.declared.entry.Entry.{Entry}
use Rattle.buchi_core.specs.Mask.{set_mask}
use Rattle.buchi_core.specs.View.{members, entry_of, entries_of}

pub event_more : (entries : List AgeEntry) (i n : ℕ) → i < n → is_kept entries i ≡ true → is_green entries i ≡ false
    → event_from entries (i + 1) (n - (i + 1)) ≡ event_from entries i (n - i)
event_more entries i n l k g =
    let e : n - i ≡ suc (n - (i + 1)) = omega arith in
    let s : suc i ≡ i + 1 = omega arith in
    sym (ap (event_from entries i) e ∙ (cond-true (is_kept entries i) _ _ k
    ∙ (cond-false (is_green entries i) _ _ g ∙ ap (λ x. event_from entries x (n - (i + 1))) s)))

pub place_more : {X : Type 0} (f : ℕ → X) (keep : ℕ → Bool) (xs : List X) (i n : ℕ) → i < n → keep i ≡ true
    → (xs ++ (f i ∷ [])) ++ map f (places keep (i + 1) (n - (i + 1))) ≡ xs ++ map f (places keep i (n - i))
place_more f keep xs i n l k =
    let e : n - i ≡ suc (n - (i + 1)) = omega arith in
    let s : suc i ≡ i + 1 = omega arith in
    append_assoc xs (f i ∷ []) (map f (places keep (i + 1) (n - (i + 1)))) ∙
    ap (λ (z : List _). xs ++ z) (sym (ap (λ x. map f (places keep i x)) e
    ∙ (ap (map f) (cond-true (keep i) _ _ k) ∙ ap (λ x. f i ∷ map f (places keep x (n - (i + 1)))) s)))

pub place_skipped : {X : Type 0} (f : ℕ → X) (keep : ℕ → Bool) (xs : List X) (i n : ℕ) → i < n → keep i ≡ false
    → xs ++ map f (places keep (i + 1) (n - (i + 1))) ≡ xs ++ map f (places keep i (n - i))
place_skipped f keep xs i n l k =
    let e : n - i ≡ suc (n - (i + 1)) = omega arith in
    let s : suc i ≡ i + 1 = omega arith in
    ap (λ (z : List _). xs ++ z) (sym (ap (λ x. map f (places keep i x)) e
    ∙ (ap (map f) (cond-false (keep i) _ _ k) ∙ ap (λ x. map f (places keep x (n - (i + 1)))) s)))

pub settled_item : (entries : List Entry) (i : ℕ) (e : Entry) → slice_get entries i ≡ Some e →
    settled (entries_of entries) i ≡ record {
      parent = renumbered (is_kept (entries_of entries)) e.parent;
      set = members (set_mask e);
    }
settled_item entries i e h =
    let g : slice_get (entries_of entries) i ≡ Some (entry_of e) = slice_get-map entry_of entries i
    ∙ ap (option_map entry_of) h in
    ap (λ o. record { parent = renumbered (is_kept (entries_of entries)) (parent_of o); set = set_of o }) g

-- a turn of the drop's loop at an entry that stays, and at one that doesn't
pub turn_kept : (entries old next : List Entry) (e item : Entry) (i j : ℕ) (whole : List AgeEntry) → j < length entries
    → i ≡ j → item ≡ get_or entries j item → next ≡ old ++ (e ∷ []) →
    e.parent ≡ renumbered (is_kept (entries_of entries)) item.parent → set_mask e ≡ set_mask item
    → is_kept (entries_of entries) i ≡ true →
    entries_of old ++ map (settled (entries_of entries)) (places (is_kept (entries_of entries)) i (length entries - i))
    ≡ whole →
    entries_of next ++ map (settled (entries_of entries)) (places (is_kept (entries_of entries)) (i + 1)
    (length entries - (i + 1))) ≡ whole
turn_kept entries old next e item i j whole l same at push parent set kept so_far =
    let l' : i < length entries = omega arith in
    let g : slice_get entries i ≡ Some item = slice_get_read entries (length entries) i item refl l'
    (at ∙ ap (λ x. get_or entries x item) (sym same)) in
    let s : settled (entries_of entries) i ≡ entry_of e = settled_item entries i item g
    ∙ (λ d. record { parent = sym parent d; set = members (sym set d) }) in
    let items : entries_of next ≡ entries_of old ++ (settled (entries_of entries) i ∷ []) = ap entries_of push
    ∙ (map_push entry_of old e ∙ ap (λ (x : AgeEntry). entries_of old ++ (x ∷ [])) (sym s)) in
    ap (λ (z : List AgeEntry). z ++ map (settled (entries_of entries))
    (places (is_kept (entries_of entries)) (i + 1) (length entries - (i + 1)))) items ∙
    (place_more (settled (entries_of entries)) (is_kept (entries_of entries)) (entries_of old) i (length entries)
    l' kept ∙ so_far)

pub turn_skipped : (entries old next : List Entry) (i j : ℕ) (whole : List AgeEntry) → j < length entries → i ≡ j
    → next ≡ old → is_kept (entries_of entries) i ≡ false →
    entries_of old ++ map (settled (entries_of entries)) (places (is_kept (entries_of entries)) i (length entries - i))
    ≡ whole →
    entries_of next ++ map (settled (entries_of entries)) (places (is_kept (entries_of entries)) (i + 1)
    (length entries - (i + 1))) ≡ whole
turn_skipped entries old next i j whole l same push kept so_far =
    ap (λ (z : List Entry). entries_of z ++ map (settled (entries_of entries))
    (places (is_kept (entries_of entries)) (i + 1) (length entries - (i + 1)))) push ∙
    (place_skipped (settled (entries_of entries)) (is_kept (entries_of entries)) (entries_of old) i (length entries)
    (omega arith) kept ∙ so_far)
