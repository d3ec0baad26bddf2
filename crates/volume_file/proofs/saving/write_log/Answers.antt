use Rattle.std.proofs.Common.{refl, arith}
use Rattle.volume_file.proofs.Laws.Reasons.{some_number}
use Rattle.volume_file.proofs.Walks.Logging.{prepare-fill, prepare-room, prepare-answered, prepare-done, prepare-kept}
use Rattle.volume_file.proofs.saving.write_log.Goals as goal

pub returns-in_err-h-clause-file : goal.returns-in_err-h-clause-file
returns-in_err-h-clause-file c = prepare-kept _ _ _ _ _ c.in_err-h.ensures.number (some_number _)

pub fill_log-k-requires : goal.fill_log-k-requires
fill_log-k-requires c = let f = prepare-fill _ _ _ _ _ _ c.in_ok-h.ensures.number refl c.in_ok-h.ensures.home in (f.whole, f.size, f.few, f.is)

pub overflow_add-h : goal.overflow_add-h
overflow_add-h c = let f = prepare-fill _ _ _ _ _ _ c.in_ok-h.ensures.number refl c.in_ok-h.ensures.home in omega (arith, f.few)

pub overflow_mul-h : goal.overflow_mul-h
overflow_mul-h c = let f = prepare-fill _ _ _ _ _ _ c.in_ok-h.ensures.number refl c.in_ok-h.ensures.home in omega (arith, f.few)

pub overflow_cast-count : goal.overflow_cast-count
overflow_cast-count c = let f = prepare-fill _ _ _ _ _ _ c.in_ok-h.ensures.number refl c.in_ok-h.ensures.home in omega (arith, f.few, c.fill_log-k.ensures.few)

pub put32-requires : goal.put32-requires
put32-requires c = omega (arith, prepare-room _ _ _ _ _ _ c.in_ok-h.ensures.number refl c.in_ok-h.ensures.home)

pub log_places-requires : goal.log_places-requires
log_places-requires c = let f = prepare-fill _ _ _ _ _ _ c.in_ok-h.ensures.number refl c.in_ok-h.ensures.home in (f.few, c.fill_log-k.ensures.few)

pub returns-clause-places : goal.returns-clause-places
returns-clause-places c = prepare-answered _ _ _ _ _ _ c.in_ok-h.ensures.number refl c.in_ok-h.ensures.home _ c.fill_log-k.ensures.count _ c.log_places.ensures

pub returns-clause-file : goal.returns-clause-file
returns-clause-file c = let k = c.fill_log-k.ensures in prepare-done _ _ _ _ _ _ c.in_ok-h.ensures.number refl c.in_ok-h.ensures.home _ k.count _ _ k.file c.put32.ensures
