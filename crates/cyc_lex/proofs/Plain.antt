-- A plain symbol is a token of its own, whatever comes after it.
use Rattle.std.proofs.Common.{◌≡◌, ℕ, true, List, [], ◌∷◌, refl, lit<}
use Rattle.unicode_ident.proofs.IdentLemmas.{is_xid_start-ascii}
use Rattle.cyc_lex.specs.declared.token.Kind.TheVariants.{Symbol}
use Rattle.cyc_lex.specs.declared.place.Piece.TheVariants as pieces
use Rattle.cyc_lex.specs.Characters.{is_plain}
use Rattle.cyc_lex.specs.Lexing.{piece_at}
use Rattle.cyc_basics.specs.Words.{Each}
use Rattle.cyc_lex.proofs.Members.{one-of}

abbrev IsAlone : ℕ → Type 0
IsAlone c = (cs : List ℕ) → piece_at c cs ≡ (pieces.Token Symbol, 0)

pub plain-piece : (c : ℕ) (cs : List ℕ) → is_plain c ≡ true → piece_at c cs ≡ (pieces.Token Symbol, 0)
plain-piece c cs h = one-of IsAlone (40 ∷ 91 ∷ 123 ∷ 41 ∷ 93 ∷ 125 ∷ 44 ∷ 59 ∷ 42 ∷ 61 ∷ 46 ∷ 36 ∷ 63 ∷ 39 ∷ [])
    c all h cs
  where
    all : Each IsAlone (40 ∷ 91 ∷ 123 ∷ 41 ∷ 93 ∷ 125 ∷ 44 ∷ 59 ∷ 42 ∷ 61 ∷ 46 ∷ 36 ∷ 63 ∷ 39 ∷ [])
    all = (
      λ cs. rw (is_xid_start-ascii 40 (lit< tt)) refl,
      (
        λ cs.
            rw (is_xid_start-ascii 91 (lit< tt)) refl,
        (
          λ cs. rw (is_xid_start-ascii 123 (lit< tt)) refl,
          (
            λ cs. rw (is_xid_start-ascii 41 (lit< tt)) refl,
            (
              λ cs.
                  rw (is_xid_start-ascii 93 (lit< tt)) refl,
              (
                λ cs. rw (is_xid_start-ascii 125 (lit< tt)) refl,
                (
                  λ cs. rw (is_xid_start-ascii 44 (lit< tt)) refl,
                  (
                    λ cs.
                        rw (is_xid_start-ascii 59 (lit< tt)) refl,
                    (
                      λ cs. rw (is_xid_start-ascii 42 (lit< tt)) refl,
                      (
                        λ cs. rw (is_xid_start-ascii 61 (lit< tt)) refl,
                        (
                          λ cs.
                              rw (is_xid_start-ascii 46 (lit< tt)) refl,
                          (
                            λ cs. rw (is_xid_start-ascii 36 (lit< tt)) refl,
                            (
                              λ cs. rw (is_xid_start-ascii 63 (lit< tt)) refl,
                              (
                                λ cs. rw (is_xid_start-ascii 39 (lit< tt)) refl,
                                tt,
                              ),
                            ),
                          ),
                        ),
                      ),
                    ),
                  ),
                ),
              ),
            ),
          ),
        ),
      ),
    )
