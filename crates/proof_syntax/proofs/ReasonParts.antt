-- What is read after a rule's word, and a fault there.
use Rattle.std.proofs.Common.{◌≡◌, Ok, Err, List, refl, sym, subst}
use Rattle.cyc_lex.specs.Word.{Word}
use Rattle.cyc_grammar.specs.declared.cursor.Refusal.{Refusal}
use Rattle.cyc_grammar.specs.Syntax.{Reading, ◌>>=◌, read_class, told}
use Rattle.cyc_grammar.specs.Giving.{Fails}
use Rattle.cyc_grammar.proofs.Loop.{passed_on}
use Rattle.heap_syntax.proofs.Fronts.{mapped}
use Rattle.proof_syntax.specs.declared.reason_word.ReasonWord.{ReasonWord}
use Rattle.heap_syntax.specs.declared.keep.Keep.{Keep}
use Rattle.proof_syntax.specs.Grammar.{Parts, kept_parts, made_of, kept_parts_read, to_reason, reason_word, kept_reason}

pub part_at : (k : Keep) (v w : ReasonWord) (ws : List Word) (p : Parts v) (rest : List Word) → w ≡ v
    → (kept_parts k v).read ws ≡ Ok (p, rest) → kept_parts_read k w ws ≡ Ok (made_of v p, rest)
part_at k v w ws p rest same h = subst (λ (u : ReasonWord). kept_parts_read k u ws ≡ Ok (made_of v p, rest)) (sym same)
    (rw h refl)

pub fault_at : (k : Keep) (v w : ReasonWord) (ws : List Word) (e : Refusal) → w ≡ v → Fails e ((kept_parts k v).read ws)
    → Fails e (kept_parts_read k w ws)
fault_at k v w ws e same h = subst (λ (u : ReasonWord). Fails e (kept_parts_read k u ws)) (sym same)
    (passed_on e ((kept_parts k v).read ws) (λ y. Ok (made_of v y.0, y.1)) h)

pub reason-read : (k : Keep) (w : ReasonWord) (ws rest : List Word) → read_class reason_word ws ≡ Ok (w, rest)
    → (kept_reason k).read ws ≡ kept_parts_read k w rest
unfolding kept_reason
reason-read k w ws rest h = rw h (by ((kept_parts k w).read rest))
  where
    by : (r : Reading (Parts w)) → (told {T = ReasonWord} {A = Parts} w r >>= mapped to_reason)
        ≡ (r >>= mapped (made_of w))
    by (Ok y) = refl
    by (Err left) = refl
