use Rattle.std.proofs.Common.{◌≡◌, Option, false, is_some, Bool, Bor}
use Rattle.std.specs.Option.{option_map}
use Rattle.dtx_values.specs.declared.entry.Entry.TheVariants.{Restarted}
use Rattle.dtx_values.specs.TxIds.{number_of}
use Rattle.dtx_values.specs.declared.record.LogRecord.{LogRecord}
use Rattle.dtx_model.specs.Coordinated.{follow}
use Rattle.dtx_model.specs.Log.{first_of, record_of}
use Rattle.dtx_model.specs.Promotes.{identifier_of}
use Rattle.coordinator_log.specs.Slots.{open_records}
use Rattle.world_parts.specs.AtLog.{IsOurs}
use Rattle.world_parts.proofs.at_log.AtLog.restarted.Goals as goal
use Rattle.std.proofs.Common.{◌∙◌, sym, subst, ap}
use Rattle.dtx_model.specs.Coordinated.{Coordinated}
use Rattle.dtx_model.specs.Log.{CommitRecord}
use Rattle.world_laws.proofs.Found.{copied_of, found_is, named_found, some_of}
use Rattle.world_parts.proofs.Keeping.{ours_restarted}

pub restarted-requires-clause-own : goal.restarted-requires-clause-own
restarted-requires-clause-own g c = λ x e.
    found_is c.args.id (record_of x.now) (open_records c.args.log.now.slots) (sym c.lookup-found.ensures.found ∙ ap (λ (o : Option (Bor LogRecord)). option_map (λ r. record_of r.now) o) e)
    ∙ c.requires.own

pub returns-clause-ours : goal.returns-clause-ours
returns-clause-ours g c =
    let id = identifier_of (number_of c.args.core.now.transaction) in
    let rs = open_records c.args.log.now.slots in
    let found = first_of c.args.id rs in
    let life = c.life-self-inside.result in
    let kept : option_map record_of c.copied-self-inside.result ≡ found
    = ap (λ (o : Option LogRecord). option_map record_of o) c.copied-self-inside.ensures ∙ copied_of c.lookup-found.result ∙ c.lookup-found.ensures.found in
    let there : is_some c.lookup-found.result ≡ is_some found = some_of c.lookup-found.result ∙ ap (λ (o : Option CommitRecord). is_some o) c.lookup-found.ensures.found in
    let P : Option CommitRecord → Type 0 = λ o. IsOurs id c.restarted.new.self.state (record { ours = o; unsure = false; life = life }) in
    let Q : Coordinated → Type 0 = λ j. IsOurs id j (record { ours = found; unsure = false; life = life }) in
    subst P (sym kept) (subst Q (sym (c.restarted.ensures.state ∙ ap (λ (b : Bool). follow c.args.core.now.state (Restarted b)) there)) (ours_restarted id c.args.core.now.state found life (named_found c.args.id id rs c.requires.own)))
