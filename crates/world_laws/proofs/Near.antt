-- What the local side writes in a call, a reply, its act, or after a message or an end, is of the local side alone.
use Rattle.std.proofs.Common.{◌≡◌, ℕ, true, List, Option, refl}
use Rattle.dtx_values.specs.declared.call.Call.{Call}
use Rattle.dtx_values.specs.declared.call.Call.TheVariants.{Clone}
use Rattle.dtx_values.specs.declared.entry.Answer.{Answer}
use Rattle.dtx_values.specs.declared.entry.Entry.{Entry}
use Rattle.dtx_values.specs.declared.entry.Entry.TheVariants.{Cloned}
use Rattle.dtx_values.specs.declared.message.Conn.{Conn}
use Rattle.dtx_values.specs.declared.message.Message.{Message}
use Rattle.dtx_values.specs.declared.note.Reply.{Reply}
use Rattle.dtx_values.specs.declared.number.EnlNo.{EnlNo}
use Rattle.dtx_model.specs.declared.branch.Branch.{Branch}
use Rattle.dtx_model.specs.Acts.{act_entries}
use Rattle.dtx_model.specs.Arrivals.{local_down, local_got}
use Rattle.dtx_model.specs.Facts.{local_facts}
use Rattle.dtx_model.specs.Half.{Half}
use Rattle.dtx_model.specs.Replies.{reply_entries}
use Rattle.dtx_model.specs.World.{gone_unlinked, reenlist_facts}
use Rattle.history_table.proofs.Scans.{each_more}
use Rattle.world_laws.specs.Course.{is_near}
use Rattle.dtx_model.proofs.Writes.{Each, e_one}
use Rattle.world_laws.proofs.Bare.{bare_act, bare_facts, bare_gone, bare_local_down, bare_local_got, bare_reenlist, bare_reply, is_bare}

bare_near : (x : Entry) → is_bare x ≡ true → is_near x ≡ true
bare_near (Cloned c k) b = refl
bare_near x b = b

near_of : {es : List Entry} → Each is_bare es → Each is_near es
near_of {es} b = record { proof = each_more is_bare is_near bare_near es b.proof }

pub near_act : (h : Half) → Each is_near (act_entries h)
near_act h = near_of (bare_act h)

pub near_reply : (h : Half) (e : EnlNo) (r : Reply) → Each is_near (reply_entries h e r)
near_reply h e r = near_of (bare_reply h e r)

pub near_local_got : (t : ℕ) (h : Half) (c : Conn) (m : Message) → Each is_near (local_got t h c m)
near_local_got t h c m = near_of (bare_local_got t h c m)

pub near_local_down : (h : Half) (c : Conn) → Each is_near (local_down h c)
near_local_down h c = near_of (bare_local_down h c)

pub near_gone : (h : Half) (e : EnlNo) → Each is_near (gone_unlinked h e)
near_gone h e = near_of (bare_gone h e)

pub near_reenlist : (t : ℕ) (b : Option Branch) → Each is_near (reenlist_facts t b)
near_reenlist t b = near_of (bare_reenlist t b)

pub near_facts : (t : ℕ) (h : Half) (c : Call) (a : Answer) → Each is_near (local_facts t h c a)
near_facts t h (Clone u c k) a = e_one (Cloned c k) refl
near_facts t h c a = near_of (bare_facts t h c a refl)
