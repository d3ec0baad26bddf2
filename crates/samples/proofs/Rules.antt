-- One name that opens every definition to computation: `unfolding rules`.
use Rattle.layout.specs.Bytes.{be32, be64, bytes4, bytes8, zeros, splice}
use Rattle.layout.specs.Geometry.{in_volume}
use Rattle.layout.specs.Table.{next, set_next, chain, ends_after, chain_ok, free_blocks, occupied, all_ones, rest_free}
use Rattle.layout.specs.Directory.{slot_at, good_name, name_of, name_ok, files, slot_of, free_slot, directory, is_empty, children, below, dirs, file_blocks, content, attribute_blocks, attributes}
use Rattle.layout.specs.Check.{stage1, stage2, stage3, directory_ok, child_ok, no_attributes, attributes_ok, file_ok, directory_entry_ok, slot_ok, new_name, visit_slots, visit_entries, visit_child, visit_root, file_chains, chains, all_chains, owned, table_ok, stage6, stage7, check}
use Rattle.volume.specs.Entries.{entry_bytes, directory_made, set_occupied, linked, taken, grown, freed, released, entries_named, blocks_named}
use Rattle.volume.specs.Format.{format_refusal, first_entries, header_bytes, format_image, formatted}
use Rattle.layout.specs.Paths.{cut, parts, path_ok, shallow, child_of, resolve, home, path_slot, entry_of, file_refusal, directory_refusal}
use Rattle.volume.specs.Create.{create_refusal, create_slot, place, place_refusal, new_refusal, create_image, create_named}
use Rattle.volume.specs.Write.{new_size, needed, new_blocks, put, written, set_file, write_at, changed_entries, write_named, write_at_refusal, write_refusal}
use Rattle.volume.specs.Delete.{all_blocks, delete_at, delete_named}
use Rattle.volume.specs.Attributes.{emptied, new_attributes, set_attribute_fields, set_attributes_at, clear_attributes_at, set_attributes_named, clear_attributes_named, set_attributes_refusal}
use Rattle.volume.specs.Flags.{clear_flags_at, clear_flags_named}
use Rattle.volume.specs.Shorten.{cut_off, tail_length, shorten_at, shorten_named, shorten_refusal}
use Rattle.volume.specs.Replace.{replace_at, replace_named, replace_refusal}
use Rattle.volume.specs.Move.{open_slot, move_slot, move_place, move_refusal, renamed, move_image, move_named}
use Rattle.volume.specs.Directories.{create_directory_refusal, new_directory_blocks, create_directory_image, create_directory_named, delete_directory_refusal}
use Rattle.volume.specs.Change as volume
use Rattle.store.specs.Change.{refusal, after, named, slot_given}
use Rattle.journal.specs.Journal.{used, started, start_refusal, copies, record_ok, records_from, records, well_formed, ascending, record_bytes, added, last_record, restored, undone_image, undone_journal}
use Rattle.journal.specs.Run.{record_of, change_refusal, after_change, change_answer, undo_refusal, after_undo, undo_answer, look_answer, step, answer, run, answers}
use Rattle.layout.specs.Looks.{lookup_refusal, lookup, read_refusal, read, extent_of, look_in_place, read_attributes, volume_info, is_root_path, listed_refusal, listed_block, used_slot, no_entry, entry_fields, next_entry}
use Rattle.layout.specs.Listing.{decimal, printed, entry_line, file_line, count_line, refused_line, listing}

unfoldable pub rules : Unit {0}
unfolding be32 be64 bytes4 bytes8 zeros splice in_volume next set_next chain ends_after chain_ok free_blocks occupied all_ones rest_free slot_at good_name name_of name_ok files slot_of free_slot directory is_empty children below dirs file_blocks content attribute_blocks attributes
    stage1 stage2 stage3 directory_ok child_ok no_attributes attributes_ok file_ok directory_entry_ok slot_ok new_name visit_slots visit_entries visit_child visit_root file_chains chains all_chains owned table_ok stage6 stage7 check
    cut parts path_ok shallow child_of resolve home path_slot entry_of file_refusal directory_refusal lookup_refusal lookup read_refusal read extent_of look_in_place read_attributes volume_info is_root_path listed_refusal listed_block used_slot no_entry entry_fields next_entry decimal printed entry_line file_line count_line refused_line listing
    entry_bytes directory_made set_occupied linked taken grown freed released entries_named blocks_named format_refusal first_entries header_bytes format_image formatted
    create_refusal create_slot place place_refusal new_refusal create_image create_named new_size needed new_blocks put written set_file write_at changed_entries write_named write_at_refusal write_refusal
    all_blocks delete_at delete_named emptied new_attributes set_attribute_fields set_attributes_at clear_attributes_at set_attributes_named clear_attributes_named set_attributes_refusal clear_flags_at clear_flags_named cut_off tail_length shorten_at shorten_named shorten_refusal replace_at replace_named replace_refusal open_slot move_slot move_place move_refusal renamed move_image move_named create_directory_refusal new_directory_blocks create_directory_image create_directory_named delete_directory_refusal volume.refusal volume.after volume.named volume.slot_given refusal after named slot_given used started start_refusal copies record_ok records_from records well_formed ascending record_bytes added
    last_record restored undone_image undone_journal record_of change_refusal after_change change_answer undo_refusal after_undo undo_answer look_answer step answer run answers
rules = tt
