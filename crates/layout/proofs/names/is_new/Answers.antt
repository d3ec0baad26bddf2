use mathlib.Core.Bool.{false, not}
use mathlib.Core.Path.{sym, ap, ◌∙◌}
use Rattle.layout.specs.Walks.Names.{fingerprint, Used}
use Rattle.layout.proofs.Walks.Fingerprints.{field-long, others-unmarked, new_name-free, new_name-used, noted-free, noted-kept, noted-own, noted-used, filtered-free, filtered-marked, filtered-new}
use Rattle.layout.proofs.names.is_new.Goals as goal

pub returns-then-type_at-eq0 : goal.returns-then-type_at-eq0
returns-then-type_at-eq0 c =
    let p = c.requires in
    let t = c.type_at.ensures in
    (new_name-free _ _ _ _ p.2 _ t c.if-type_at-eq0.true, noted-free _ _ _ _ p.2 p.3 _ _ p.0 _ t c.if-type_at-eq0.true, filtered-free _ _ _ _ p.2 p.3 _ _ p.1 _ t c.if-type_at-eq0.true)

pub fingerprint-p-requires : goal.fingerprint-p-requires
fingerprint-p-requires c =
    field-long c.args.image.now c.args.b c.args.k _ c.field_at.ensures c.requires.2.inside

pub returns-then-seen-h : goal.returns-then-seen-h
returns-then-seen-h c =
    let p = c.requires in
    let t = c.type_at.ensures in
    let v = c.fingerprint-p.ensures ∙ ap fingerprint c.field_at.ensures in
    let mine : Used _ _ = record { right = p.3; used = λ u. c.if-type_at-eq0.false (t ∙ u) } in
    let none = others-unmarked _ _ _ _ _ p.0 _ mine _ _ _ p.1 p.2.low v c.if-seen-h.true in (
      new_name-used _ _ _ _ p.2 _ t c.if-type_at-eq0.false false (ap not (sym none)),
      noted-used _ _ _ _ p.2 p.3 _ _ p.0 _ v,
      filtered-new _ _ _ _ p.2 p.3 _ _ p.1 _ v,
    )

pub name_in-requires : goal.name_in-requires
name_in-requires c =
    let p = c.requires in
    let v = c.fingerprint-p.ensures ∙ ap fingerprint c.field_at.ensures in
    let mine : Used _ _ = record { right = p.3; used = λ u. c.if-type_at-eq0.false (c.type_at.ensures ∙ u) } in
    (noted-kept _ _ _ _ p.2 p.3 _ _ p.0 _, p.2, mine, noted-own _ _ _ _ p.2 p.3 _ _ p.0 _ v)

pub returns : goal.returns
returns c =
    let p = c.requires in
    let v = c.fingerprint-p.ensures ∙ ap fingerprint c.field_at.ensures in (
      new_name-used _ _ _ _ p.2 _ c.type_at.ensures c.if-type_at-eq0.false _ c.name_in.ensures,
      noted-used _ _ _ _ p.2 p.3 _ _ p.0 _ v,
      filtered-marked _ _ _ _ p.2 p.3 _ _ p.1 _ v c.if-seen-h.false,
    )
