-- Evidence by the seal and by the owner, read off a book.
use Rattle.std.proofs.Common.{◌≡◌, ℕ, Bool, true, false, cond, ◌==◌, ◌&&◌, ◌||◌, not, List, [], ◌∷◌, refl, ap, sym, ◌∙◌}
use Rattle.dtx_values.specs.declared.entry.Entry.{Entry}
use Rattle.dtx_values.specs.declared.number.EnlNo.{EnlNo}
use Rattle.dtx_values.specs.declared.words.Class.{Class}
use Rattle.dtx_values.specs.declared.words.Outcome.TheVariants.{Committed}
use Rattle.dtx_model.specs.Entries.{is_hand, is_owner}
use Rattle.dtx_model.specs.Outcome.{by_owner, by_seal, can_own, durables, is_empty, may_decide, owner_committed}
use Rattle.dtx_model.specs.Words.{each, has}
use Rattle.trace_checker.specs.declared.book.Book.{Book}
use Rattle.trace_checker.specs.declared.owner.Lasting.{Lasting}
use Rattle.trace_checker.specs.declared.owner.Lasting.TheVariants.{Nobody, One, Several}
use Rattle.trace_checker.specs.Kept.{IsBookOf}
use Rattle.trace_checker.specs.Members.{member}
use Rattle.trace_checker.specs.Owner.{named_by}

-- whether the one that is named owned the commit and answered committed
abbrev owner_by : List Entry → List (EnlNo × Class) → Lasting → Bool
owner_by h ds Nobody = false
owner_by h ds (One n) = has (λ y. can_own y.1) ds && may_decide h n && has (is_hand n) h && has (is_owner n Committed) h
owner_by h ds Several = false

owner_named : (h : List Entry) (ds : List (EnlNo × Class)) → owner_committed h ds ≡ owner_by h ds (named_by ds)
owner_named h [] = refl
owner_named h (x ∷ xs) = by (each (λ y. x.0.value == y.0.value) xs)
  where
    by : (b : Bool) → (b && has (λ y. can_own y.1) (x ∷ xs) && may_decide h x.0.value && has (is_hand x.0.value) h && has (is_owner x.0.value Committed) h) ≡ owner_by h (x ∷ xs) (cond b (One x.0.value) Several)
    by true = refl
    by false = refl

-- by the owner, where it is known whom the book names
owner_kept : (h : List Entry) (b : Book) (l : Lasting) → b.owner.lasting ≡ l → IsBookOf h b → by_owner h ≡ owner_by h (durables h) l
unfolding by_owner
owner_kept h b l e k = owner_named h (durables h) ∙ ap (owner_by h (durables h)) (sym k.owner.lasting ∙ e)

-- the one durable or promotable may own the commit, may decide, was handed the commit and answered committed
pub owner_one : (h : List Entry) (b : Book) (n : ℕ) → b.owner.lasting ≡ One n → IsBookOf h b
    → by_owner h ≡ (b.owner.able && ((not b.marks.promoted || (member n b.members).single) && (member n b.members).handed && (member n b.members).committed))
owner_one h b n e k =
    owner_kept h b (One n) e k
    ∙ rw (k.owner.able, k.marks.promoted, (k.members n).single, (k.members n).handed, (k.members n).committed) (apart (has (λ y. can_own y.1) (durables h)) (may_decide h n) (has (is_hand n) h) (has (is_owner n Committed) h))
  where
    apart : (a m k o : Bool) → (a && m && k && o) ≡ (a && (m && k && o))
    apart true m k o = refl
    apart false m k o = refl

pub owner_nobody : (h : List Entry) (b : Book) → b.owner.lasting ≡ Nobody → IsBookOf h b → by_owner h ≡ false
owner_nobody h b e k = owner_kept h b Nobody e k

pub owner_several : (h : List Entry) (b : Book) → b.owner.lasting ≡ Several → IsBookOf h b → by_owner h ≡ false
owner_several h b e k = owner_kept h b Several e k

-- nobody is named by none alone
abbrev pub is_nobody : Lasting → Bool
is_nobody Nobody = true
is_nobody (One n) = false
is_nobody Several = false

none_named : (ds : List (EnlNo × Class)) → is_empty ds ≡ is_nobody (named_by ds)
none_named [] = refl
none_named (x ∷ xs) = by (each (λ y. x.0.value == y.0.value) xs)
  where
    by : (b : Bool) → false ≡ is_nobody (cond b (One x.0.value) Several)
    by true = refl
    by false = refl

pub seal_is : (h : List Entry) (b : Book) → IsBookOf h b → by_seal h ≡ (b.marks.sealed && not b.marks.promoted && is_nobody b.owner.lasting)
unfolding by_seal
seal_is h b k = rw (k.marks.sealed, k.marks.promoted, k.owner.lasting, none_named (durables h)) refl
