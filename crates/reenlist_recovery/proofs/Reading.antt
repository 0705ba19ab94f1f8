-- Bytes that are refused as recovery information are none, and are refused so alone.
use Rattle.std.proofs.Common.{◌≡◌, ◌↔◌, ◌+◌, ℕ, List, length, Option, Some, None, Err, ap, sym, ◌∙◌}
use Rattle.std.specs.Option.{option_map, option_or}
use Rattle.std.specs.Result.{result_err}
use Rattle.dtx_values.specs.declared.info.BadInfo.{BadInfo}
use Rattle.dtx_values.specs.declared.info.BadInfo.TheVariants.{Length, Value}
use Rattle.dtx_values.specs.declared.message.Info.{Info}
use Rattle.dtx_values.specs.RecoveryInfo.{IsInfo, bad_field}
use Rattle.dtx_values.proofs.Infos.{info_id, info_long, info_pair}
use Rattle.dtx_values.specs.declared.entry.Answer.{Answer}
use Rattle.dtx_values.specs.declared.entry.Answer.TheVariants.{Fine, Finished, Over, Connected, Stopped}
use Rattle.dtx_values.specs.declared.entry.Entry.{Entry}
use Rattle.dtx_values.specs.declared.number.EnlNo.{EnlNo}
use Rattle.dtx_model.specs.Words.{past_of}
use Rattle.reenlist_recovery.specs.declared.refusal.ReenlistRefusal.{ReenlistRefusal}
use Rattle.reenlist_recovery.specs.declared.refusal.ReenlistRefusal.TheVariants.{BadInfo as Unreadable, WrongTransaction}
use Rattle.reenlist_recovery.specs.declared.standing.Standing.{Standing}
use Rattle.reenlist_recovery.specs.Recovery.{IsBad, answered, refusal_of, unless_refused}
use Rattle.reenlist_recovery.specs.Standing.{answer_by, standing_of}
use Rattle.reenlist_recovery.proofs.Standings.{answer-is}

-- information has no bad field
no_bad_field : (b : List ℕ) (i : Info) → IsInfo b i → bad_field b ≡ None
no_bad_field b i is =
    (λ k. option_or (result_err (info_id b i is k)) (option_map (λ p. 16 + p) (result_err (info_pair b i is k))))

-- so it isn't bad
pub not-bad : (b : List ℕ) (i : Info) (x : BadInfo) → IsInfo b i → IsBad b x → ⊥
not-bad b i (Length n) is bad = bad.1 (bad.0 ∙ ap length is.bytes ∙ info_long i)
not-bad b i (Value p) is bad = let none = no_bad_field b i is in let some = bad.1 in absurd cc

-- bytes are bad in one way
pub one-bad : (b : List ℕ) (x y : BadInfo) → IsBad b x → IsBad b y → x ≡ y
one-bad b (Length m) (Length n) p q = ap Length (p.0 ∙ sym q.0)
one-bad b (Length m) (Value n) p q = absurd (p.1 (p.0 ∙ q.0))
one-bad b (Value m) (Length n) p q = absurd (q.1 (q.0 ∙ p.0))
one-bad b (Value m) (Value n) p q = let same : Some m ≡ Some n = sym p.1 ∙ q.1 in ap Value cc

-- no answer is refused for its bytes
refused_otherwise : (e : EnlNo) (a : Answer) (x : BadInfo) → refusal_of e a ≡ Some (Unreadable x) → ⊥
refused_otherwise e Fine x h = absurd cc
refused_otherwise e Finished x h = absurd cc
refused_otherwise e (Over r) x h = absurd cc
refused_otherwise e (Connected f) x h = absurd cc
refused_otherwise e Stopped x h = absurd cc
refused_otherwise e _ x h = absurd cc

-- where the bytes are information, what is answered otherwise is right
pub otherwise-bad : (b : List ℕ) (i : Info) (o : Option ReenlistRefusal) → IsInfo b i → ((x : BadInfo) → o ≡ Some (Unreadable x) → ⊥) → (x : BadInfo) → (unless_refused i o ≡ Err (Unreadable x)) ↔ IsBad b x
otherwise-bad b i None is never x = (λ h. absurd cc, λ bad. absurd (not-bad b i x is bad))
otherwise-bad b i (Some r) is never x = (λ h. let same : r ≡ Unreadable x = cc in absurd (never x (ap Some same)), λ bad. absurd (not-bad b i x is bad))

pub wrong-bad : (b : List ℕ) (i : Info) (f w : ℕ) → IsInfo b i → (x : BadInfo) → (unless_refused i (Some (WrongTransaction f w)) ≡ Err (Unreadable x)) ↔ IsBad b x
wrong-bad b i f w is x = otherwise-bad b i (Some (WrongTransaction f w)) is (λ y h. absurd cc) x

pub refused-bad : (b : List ℕ) (i : Info) (e : EnlNo) (a : Answer) (o : Option ReenlistRefusal) → IsInfo b i → o ≡ refusal_of e a → (x : BadInfo) → (unless_refused i o ≡ Err (Unreadable x)) ↔ IsBad b x
refused-bad b i e a o is by x = otherwise-bad b i o is (λ y h. refused_otherwise e a y (sym by ∙ h)) x

-- what information of the transaction is answered
pub answered-is : (xs : List Entry) (i j : Info) (s : Standing) (o : Option ReenlistRefusal) → i ≡ j → s ≡ standing_of i.enl (past_of xs) → o ≡ refusal_of i.enl (answer_by i.enl s) → unless_refused i o ≡ answered xs j
answered-is xs i j s o same standing refused =
    ap (unless_refused i) (refused ∙ ap (λ (t : Standing). refusal_of i.enl (answer_by i.enl t)) standing ∙ ap (refusal_of i.enl) (sym (answer-is i.enl xs)))
    ∙ ap (answered xs) same
