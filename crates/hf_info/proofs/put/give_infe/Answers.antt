use Rattle.std.proofs.Common.{List, ℕ, ◌++◌, refl, subst}
use Rattle.hf_box.specs.Written.{zero_ended}
use Rattle.hf_desk.specs.Pages.{ByPut, Gives}
use Rattle.hf_desk.proofs.Paging.{gives_then, gives_more, gives_exit}
use Rattle.hf_info.specs.Infe.{info_of, content_text, uri_text}
use Rattle.hf_info.proofs.PutLemmas.{front_whole}
use Rattle.hf_info.proofs.put.give_infe.Goals as goal

pub returns-in_err-give_front : goal.returns-in_err-give_front
returns-in_err-give_front g c =
    let outside = g.D.Desk.outside in
    let i = info_of c.args.info.now in
    let whole = front_whole c.args.wide c.infe_size.result i c.requires.size c.infe_size.ensures in
    let err = c.from_residual.ensures.0 in
    subst (λ (l : List ℕ). Gives ByPut (outside c.args.desk.now) c.args.page.now l c.from_residual.result (outside c.give_front.new.desk) c.give_front.new.page) whole
    (gives_more (zero_ended i.name ++ (content_text i ++ uri_text i)) err (gives_exit refl err c.in_err-give_front.ensures))

pub returns-in_err-give_text : goal.returns-in_err-give_text
returns-in_err-give_text g c =
    let outside = g.D.Desk.outside in
    let i = info_of c.args.info.now in
    let whole = front_whole c.args.wide c.infe_size.result i c.requires.size c.infe_size.ensures in
    let err = c.from_residual-in_err-give_text.ensures.0 in
    subst (λ (l : List ℕ). Gives ByPut (outside c.args.desk.now) c.args.page.now l c.from_residual-in_err-give_text.result (outside c.give_text.new.desk) c.give_text.new.page) whole
    (gives_then c.in_ok-give_front.ensures (gives_more (content_text i ++ uri_text i) err (gives_exit refl err c.in_err-give_text.ensures)))

pub returns-in_err-give_content : goal.returns-in_err-give_content
returns-in_err-give_content g c =
    let outside = g.D.Desk.outside in
    let i = info_of c.args.info.now in
    let whole = front_whole c.args.wide c.infe_size.result i c.requires.size c.infe_size.ensures in
    let err = c.from_residual-in_err-give_content.ensures.0 in
    subst (λ (l : List ℕ). Gives ByPut (outside c.args.desk.now) c.args.page.now l c.from_residual-in_err-give_content.result (outside c.give_content.new.desk) c.give_content.new.page) whole
    (gives_then c.in_ok-give_front.ensures (gives_then c.in_ok-give_text.ensures (gives_more (uri_text i) err (gives_exit refl err c.in_err-give_content.ensures))))

pub returns : goal.returns
returns g c =
    let outside = g.D.Desk.outside in
    let i = info_of c.args.info.now in
    let whole = front_whole c.args.wide c.infe_size.result i c.requires.size c.infe_size.ensures in
    subst (λ (l : List ℕ). Gives ByPut (outside c.args.desk.now) c.args.page.now l c.give_uri.result (outside c.give_uri.new.desk) c.give_uri.new.page) whole
    (gives_then c.in_ok-give_front.ensures (gives_then c.in_ok-give_text.ensures (gives_then c.in_ok-give_content.ensures c.give_uri.ensures)))
