use Rattle.std.proofs.Common.{ap, ◌∙◌, refl, length, length-set, arith}
use Rattle.layout.proofs.Laws.Bytes.{length-zeros}
use Rattle.store.proofs.Walks.Serials.{path-short, path-begun, path-stored, path-front}
use Rattle.store.proofs.serial.path_of.Goals as goal

pub copy_part-requires : goal.copy_part-requires
copy_part-requires c =
    let s = path-short _ _ c.requires in
    let z = ap length c.no_path-bytes.ensures ∙ length-zeros 665 in
    (omega (arith, c.front_length-k.ensures), omega (arith, c.front_length-k.ensures))

pub bounds-bytes-k : goal.bounds-bytes-k
bounds-bytes-k c = let s = path-short _ _ c.requires in omega (arith, c.front_length-k.ensures)

pub copy_part-requires-2 : goal.copy_part-requires-2
copy_part-requires-2 c =
    let s = path-short _ _ c.requires in
    let m = c.copy_part.new.dst in
    let k = c.front_length-k in
    let l = path-begun _ _ c.requires _ m _ k.ensures.0 c.no_path-bytes.ensures c.copy_part.ensures in
    let g = length-set m k.result 47 in
    (omega arith, omega (arith, k.ensures))

pub returns-clause-path : goal.returns-clause-path
returns-clause-path c =
    let k = c.front_length-k.ensures.0 in
    path-front _ _ c.requires _ (path-stored _ _ c.requires _ c.no_path-bytes.result c.copy_part.new.dst _ k c.no_path-bytes.ensures c.copy_part.ensures c.copy_part-2.ensures) _ _ k refl

pub returns-clause-inside : goal.returns-clause-inside
returns-clause-inside c = let s = path-short _ _ c.requires in omega (arith, c.front_length-k.ensures)

pub returns-clause-bytes : goal.returns-clause-bytes
returns-clause-bytes c = path-stored _ _ c.requires _ c.no_path-bytes.result c.copy_part.new.dst _ c.front_length-k.ensures.0 c.no_path-bytes.ensures c.copy_part.ensures c.copy_part-2.ensures
