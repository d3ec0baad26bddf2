use mathlib.Core.Path.{◌∙◌, sym}
use native.Mathlib.Omega.{arith}
use Rattle.script.proofs.Walks.Scripts.{length-data}
use Rattle.script.proofs.Walks.Encoding.{filled-length, read_small, read-written}
use Rattle.script.proofs.answers.read.Goals as goal

pub filled_numbers-requires : goal.filled_numbers-requires
filled_numbers-requires c =
    let read-into = c.read_into-f in
    let get32 = c.get32 in
    let a = c.args in
    let p = c.requires in
    omega (
      arith,
      read_small a.image.now a.script.now a.at read-into.new.buffer read-into.result read-into.ensures,
      length-data a.script.now a.at
          p.0,
      get32.ensures,
    )

pub returns : goal.returns
returns c =
    let put-numbers = c.put_numbers in
    let filled-numbers = c.filled_numbers in
    let read-into = c.read_into-f in
    let get32 = c.get32 in
    let a = c.args in
    let p = c.requires in
    let l = filled-length a.image.now a.script.now a.at ∙ length-data a.script.now a.at p.0 ∙ sym get32.ensures in
    read-written a.part.now read-into.new.buffer _ _ get32.result read-into.result _ _ _ _ read-into.ensures l
    (p.1 ∙ rw get32.ensures) (omega arith) filled-numbers.ensures put-numbers.ensures
