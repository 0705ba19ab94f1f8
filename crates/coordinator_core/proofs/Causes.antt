-- Why the record is appended, and why it is freed.
use Rattle.std.proofs.Common.{◌≡◌, ◌&&◌, ◌||◌, not, Bool, true, false}
use Rattle.std.proofs.lemmas.Bool.{and_parts, not-true}
use Rattle.dtx_model.specs.Words.{each}
use Rattle.dtx_model.specs.Coordinated.{Coordinated, is_active, is_finished, is_prepared, is_ready, is_recorded, may_free, may_log}
use Rattle.coordinator_core.specs.Acting.{IsHeard, IsVoted}

pub voted_why : (k : Coordinated) → may_log k ≡ true → IsVoted k
unfolding may_log
voted_why k may =
    let last = and_parts (not k.stopped && is_active k.stage && k.commit && k.yes) (each (λ d. is_ready d.ballot) k.desks) may in
    let third = and_parts (not k.stopped && is_active k.stage && k.commit) k.yes last.0 in
    let second = and_parts (not k.stopped && is_active k.stage) k.commit third.0 in
    let first = and_parts (not k.stopped) (is_active k.stage) second.0 in
    record { commit = second.1; yes = third.1; ready = last.1; runs = not-true k.stopped first.0 }

-- it is active then
pub active_then : (k : Coordinated) → may_log k ≡ true → is_active k.stage ≡ true
unfolding may_log
active_then k may =
    let last = and_parts (not k.stopped && is_active k.stage && k.commit && k.yes) (each (λ d. is_ready d.ballot) k.desks) may in
    let third = and_parts (not k.stopped && is_active k.stage && k.commit) k.yes last.0 in
    let second = and_parts (not k.stopped && is_active k.stage) k.commit third.0 in
    (and_parts (not k.stopped) (is_active k.stage) second.0).1

pub heard_why : (k : Coordinated) → may_free k ≡ true → IsHeard k
unfolding may_free
heard_why k may =
    let last = and_parts (not k.stopped && is_recorded k.stage) (each (λ d. not (is_prepared d.ballot) || is_finished k.recovered d) k.desks) may in
    let first = and_parts (not k.stopped) (is_recorded k.stage) last.0 in
    record { stands = first.1; finished = last.1; runs = not-true k.stopped first.0 }

-- a test that was made only where the first held
pub both_held : (a b r : Bool) → a ≡ true → r ≡ b → r ≡ (a && b)
both_held true b r holds same = same
both_held false b r holds same = absurd cc

pub first_failed : (a b r : Bool) → a ≡ false → r ≡ false → r ≡ (a && b)
first_failed true b r fails same = absurd cc
first_failed false b r fails same = same
