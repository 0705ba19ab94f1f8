-- What keeps the table is promoted in order, but for what only the calls and the blocks give: the call that the promotion is for, and what its success names.
use Rattle.std.proofs.Common.{◌≡◌, ◌==◌, ℕ, Bool, true, false, ◌&&◌, List, [], ◌∷◌, refl}
use Rattle.std.specs.Prelude.{not}
use Rattle.dtx_values.specs.declared.entry.Entry.{Entry}
use Rattle.dtx_values.specs.declared.entry.Entry.TheVariants.{Promoted, Promoting, PromotionFailed}
use Rattle.dtx_values.specs.declared.script.Line.{Line}
use Rattle.dtx_model.specs.Words.{always, has}
use Rattle.dtx_model.specs.Entries.{is_decision, is_sealed}
use Rattle.dtx_model.specs.Promotes.{identifier_of, is_begun_got, is_created_got, is_first_wait, is_handed_over, is_promoting, is_promoting_for, is_under_way, keeps_order, promotes}
use Rattle.dtx_model.proofs.Bools.{and_both, and_left, and_right}
use Rattle.history_table.proofs.Table.{have_come, rule, ruled}

-- A promotion begins directly after the first call that waits, and for that call's cause. It succeeds for the cause for which it began, with the identifier of
-- the transaction, and after ENLISTED where a durable or promotable stood at the start.
abbrev pub is_called_for : List Line → ℕ → List Entry → Entry → Bool
is_called_for s t h (Promoting c) = is_first_wait s c h
is_called_for s t h (Promoted u c) = has (is_promoting_for c) h && (u == identifier_of t) && is_handed_over h
is_called_for s t h _ = true

-- what keeps its row and is called for keeps the order of a promotion
order_kept : (s : List Line) (t : ℕ) (h : List Entry) (x : Entry) → rule h x ≡ true → is_called_for s t h x ≡ true → keeps_order s t h x ≡ true
order_kept s t h (Promoting c) r n =
    and_both (not (has is_promoting h)) (is_first_wait s c h) (and_right (not (has is_decision h) && not (has is_sealed h)) (not (has is_promoting h)) r) n
order_kept s t h (Promoted u c) r n =
    step (not (has is_decision h)) (not (has is_sealed h)) (is_under_way h) (have_come h) (has is_begun_got h) (has is_created_got h) (has (is_promoting_for c) h)
    (u == identifier_of t) (is_handed_over h) r n
  where
    step : (d s w m b c f i o : Bool) → (d && s && w && m && (b && c)) ≡ true → (f && i && o) ≡ true → (w && f && i && b && c && o) ≡ true
    step true true true true true true true true true r n = refl
    step false s w m b c f i o r n = absurd cc
    step true false w m b c f i o r n = absurd cc
    step true true false m b c f i o r n = absurd cc
    step true true true false b c f i o r n = absurd cc
    step true true true true false c f i o r n = absurd cc
    step true true true true true false f i o r n = absurd cc
    step true true true true true true false i o r n = absurd cc
    step true true true true true true true false o r n = absurd cc
    step true true true true true true true true false r n = absurd cc
order_kept s t h PromotionFailed r n = r
order_kept s t h _ r n = refl

-- what keeps the table and is called for is promoted in order
pub ruled_ordered : (s : List Line) (t : ℕ) (h : List Entry) → ruled h ≡ true → always (is_called_for s t) h ≡ true → promotes s t h ≡ true
unfolding promotes
ruled_ordered s t [] r n = refl
ruled_ordered s t (x ∷ h) r n =
    and_both (keeps_order s t h x) (always (keeps_order s t) h)
    (order_kept s t h x (and_left (rule h x) (ruled h) r) (and_left (is_called_for s t h x) (always (is_called_for s t) h) n))
    (ruled_ordered s t h (and_right (rule h x) (ruled h) r) (and_right (is_called_for s t h x) (always (is_called_for s t) h) n))
