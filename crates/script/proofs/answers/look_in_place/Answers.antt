use mathlib.Core.Path.{ap, ◌∙◌}
use native.Mathlib.Omega.{arith}
use Rattle.script.specs.Script.{encoded}
use Rattle.script.proofs.Walks.Encoding.{shown-small, shown-short, shown-answer}
use Rattle.script.proofs.answers.look_in_place.Goals as goal

pub overflow_cast-a : goal.overflow_cast-a
overflow_cast-a c =
    let x = c.extent_in_place-x.ensures in
    let small = shown-small _ _ _ _ _ x.0 x.1 in
    omega arith

pub put_shown-requires : goal.put_shown-requires
put_shown-requires c =
    let x = c.extent_in_place-x.ensures in
    (shown-short _ _ _ _ _ x.0 x.1, c.requires.1)

pub returns : goal.returns
returns c =
    let put-shown = c.put_shown in
    let x = c.extent_in_place-x.ensures in
    let name-of = c.name_of-name in
    let get64 = c.get64-index in
    put-shown.ensures ∙ ap encoded (shown-answer _ _ _ _ _ x.0 x.1) ∙ rw (name-of.ensures, get64.ensures)
