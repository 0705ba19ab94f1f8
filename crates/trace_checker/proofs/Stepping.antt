-- What a checker says of the next entry.
use Rattle.std.proofs.Common.{◌≡◌, ℕ, ◌+◌, ◌-◌, ◌<◌, List, [], ◌∷◌, ◌++◌, Option, Some, None, get_or, length, set, refl, subst, sym}
use Rattle.std.specs.Result.{IfOk}
use Rattle.std.specs.declared.result.Result.{Result}
use Rattle.std.specs.declared.result.Result.TheVariants.{Ok, Err}
use Rattle.dtx_values.specs.declared.entry.Entry.{Entry}
use Rattle.dtx_values.specs.declared.number.TxNo.{TxNo}
use Rattle.dtx_values.specs.declared.trace.Place.{Place}
use Rattle.dtx_values.specs.declared.trace.Place.TheVariants.{Transaction}
use Rattle.dtx_model.specs.Traces.{Placed, history}
use Rattle.dtx_model.specs.Words.{past_of}
use Rattle.trace_checker.specs.declared.book.Book.{Book}
use Rattle.trace_checker.specs.declared.checked.Why.{Why}
use Rattle.trace_checker.specs.declared.checker.Checker.{Checker}
use Rattle.trace_checker.specs.Checking.{IsCheckedWith, IsCheckerOf}
use Rattle.trace_checker.specs.Keeps.{Loses}
use Rattle.trace_checker.specs.Kept.{IsBookOf}
use Rattle.trace_checker.specs.Loss.{IsLossOf}
use Rattle.trace_checker.proofs.Tracing.{books_more, keeps_more, loses_more}

pub lost_here : (T : List Placed) (x : Placed) (o : Option Why) (why : Why) (c : Checker) → o ≡ Some why → IsCheckedWith T x o c → Loses why (T ++ x ∷ [])
lost_here T x o why c e k = let P : Option Why → Type 0 = λ o. IsCheckedWith T x o c in subst P e k

pub kept_here : (T : List Placed) (x : Placed) (o : Option Why) (c : Checker) → o ≡ None → IsCheckedWith T x o c → IsCheckerOf (T ++ x ∷ []) c
kept_here T x o c e k = let P : Option Why → Type 0 = λ o. IsCheckedWith T x o c in subst P e k

-- of what comes back two things hold, and so a third
pub on_both : {T E : Type 0} {P Q R : T → Type 0} (r : Result T E) → ((v : T) → P v → Q v → R v) → IfOk r P → IfOk r Q → IfOk r R
on_both (Ok v) f p q = f v p q
on_both (Err e) f p q = p

-- the next entry, at transaction u, with the book b of it in the place of the one at i
pub checked_here : (T : List Placed) (u : TxNo) (at : Place) (x : Entry) (loss : Option Why) (old new : Checker) (i : ℕ) (b : Book) → at ≡ Transaction u → new.books.items ≡ set old.books.items i b → i + 1 ≡ u.value → i < length old.books.items
    → IsCheckerOf T old → IsLossOf (x ∷ history u.value (past_of T)) loss → (loss ≡ None → IsBookOf (x ∷ history u.value (past_of T)) b) → IsCheckedWith T (at, x) loss new
checked_here T u at x loss old new i b p e n lt k lost noted =
    let C : Place → Type 0 = λ p. IsCheckedWith T (p, x) loss new in
    subst C (sym p) (by loss lost noted)
  where
    by : (loss : Option Why) → IsLossOf (x ∷ history u.value (past_of T)) loss → (loss ≡ None → IsBookOf (x ∷ history u.value (past_of T)) b) → IsCheckedWith T (Transaction u, x) loss new
    by (Some why) lost noted = loses_more T u x why k.keeps lost
    by None lost noted = record {
      keeps = keeps_more T u x k.keeps lost;
      books =
          let B : List Book → Type 0 = λ bs. (t : TxNo) (d : Book) → IsBookOf (history t.value (past_of (T ++ (Transaction u, x) ∷ []))) (get_or bs (t.value - 1) d) in
          subst B (sym e) (books_more T u x old.books.items i b n lt k.books (noted refl));
    }
