-- What the rules leave out: nobody comes back.
use Rattle.std.proofs.Common.{◌≡◌, Bool, true, List, [], ◌∷◌, refl}
use Rattle.dtx_values.specs.declared.entry.Entry.{Entry}
use Rattle.dtx_values.specs.declared.entry.Entry.TheVariants.{Got, Reenlisted}
use Rattle.dtx_values.specs.declared.message.Conn.TheVariants.{Again}
use Rattle.dtx_model.specs.Words.{always}
use Rattle.dtx_model.specs.Learned.{is_learned, is_answered, are_answered, Learned}
use Rattle.dtx_model.proofs.Bools.{and_both}
use Rattle.script_histories.proofs.Rule.{rule, ruled, first_rule, other_rules}

-- what keeps its rule after what keeps its own is told after no reenlistment
rightly_told : (h : List Entry) (x : Entry) → ruled h ≡ true → is_learned h x ≡ true
rightly_told (Got (Again f) d m ∷ h) x r = absurd cc
rightly_told _ x r = refl

-- in what keeps the rules what is learned is learned rightly
pub ruled_learned : (h : List Entry) → ruled h ≡ true → Learned h
ruled_learned [] r = refl
ruled_learned (x ∷ h) r = and_both (is_learned h x) (always is_learned h) (rightly_told h x (other_rules x h r)) (ruled_learned h (other_rules x h r))

-- what keeps its rule is no reenlistment that waits
answered_kept : (decided : Bool) (behind h : List Entry) (x : Entry) → rule h x ≡ true → is_answered decided behind x ≡ true
answered_kept decided behind h (Reenlisted e) k = absurd cc
answered_kept decided behind h _ k = refl

-- each that came back was told, since nobody came back
pub ruled_answered : (decided : Bool) (behind h : List Entry) → ruled h ≡ true → are_answered decided behind h ≡ true
ruled_answered decided behind [] r = refl
ruled_answered decided behind (x ∷ h) r =
    and_both (is_answered decided behind x) (are_answered decided (x ∷ behind) h) (answered_kept decided behind h x (first_rule x h r))
    (ruled_answered decided (x ∷ behind) h (other_rules x h r))
