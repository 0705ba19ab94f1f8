use Rattle.std.proofs.Common.{[], ◌∷◌, List, ap, ◌∙◌}
use Rattle.dtx_values.specs.declared.entry.Entry.{Entry}
use Rattle.dtx_values.specs.TxIds.{number_of}
use Rattle.dtx_values.specs.declared.entry.Entry.TheVariants.{Got}
use Rattle.dtx_values.specs.declared.message.Dir.TheVariants.{Down}
use Rattle.dtx_values.specs.Outgoing.{written}
use Rattle.dtx_model.specs.Arrivals.{local_got}
use Rattle.dtx_model.specs.Half.{heeds_all, sees}
use Rattle.tm_proxy.specs.declared.news.ProxyNews.{ProxyNews}
use Rattle.half_parts.specs.Half.{Known, after}
use Rattle.local_half.specs.Told.{told_by}
use Rattle.local_half.proofs.News.{arrived-news}
use Rattle.local_half.proofs.half.LocalHalf.got.Goals as goal

pub returns-clause-state : goal.returns-clause-state
unfolding heeds_all local_got
returns-clause-state c =
    let known = c.args.self.now in
    let h = sees known.half (Got c.args.c Down c.args.m) in
    c.take_news.ensures.state ∙ ap (λ (k : Known). after [] k (told_by (number_of k.transaction) k.half c.args.c c.hear-news.result)) c.hear-news.ensures.state
    ∙ ap (λ (n : ProxyNews). after [] known (Got c.args.c Down c.args.m ∷ told_by (number_of known.transaction) h c.args.c n)) c.hear-news.ensures.news
    ∙ ap (λ (es : List Entry). after [] known (Got c.args.c Down c.args.m ∷ es)) (arrived-news (number_of known.transaction) h c.args.c c.args.m)

pub returns-clause-out : goal.returns-clause-out
unfolding heeds_all local_got
returns-clause-out c =
    let known = c.args.self.now in
    let h = sees known.half (Got c.args.c Down c.args.m) in
    c.take_news.ensures.out ∙ ap (λ (k : Known). written c.args.out.now (told_by (number_of k.transaction) k.half c.args.c c.hear-news.result)) c.hear-news.ensures.state
    ∙ ap (λ (n : ProxyNews). written c.args.out.now (told_by (number_of known.transaction) h c.args.c n)) c.hear-news.ensures.news
    ∙ ap (λ (es : List Entry). written c.args.out.now es) (arrived-news (number_of known.transaction) h c.args.c c.args.m)
