-- LOOKS AT THE MODEL, and what they answer: 9 and 17 by the path alone, 10 where it shows no file, 12 beyond a file's end; 22, 17, 10, 24 and 23 of settings.
use Rattle.std.specs.Prelude.{ℕ, ◌*◌, ◌/◌, List, [], length, take, leb}
use Rattle.layout.specs.Bytes.{part, splice}
use Rattle.layout.specs.Refusals.{require, first_of, accept}
use Rattle.layout.specs.Paths.{parts, path_ok, leading, shallow}
use Rattle.layout.specs.Looks.{ReadAnswer}
use Rattle.store.specs.Settings.{max_setting, Revision}
use Rattle.store.specs.Put.{path_of, address_refusal, held_in}
use Rattle.store.specs.Get.{Which, wanted, data_of, GetAnswer, got_answer, sought_refusal}
use Rattle.model.specs.Model.{Node, nothing, file, folder, Model, settings, shows_file}

abbrev pub bytes_in : Node → List ℕ
bytes_in nothing = []
bytes_in (file f) = f.bytes
bytes_in (folder d) = []

abbrev pub attributes_in : Node → List ℕ
attributes_in nothing = []
attributes_in (file f) = f.attributes
attributes_in (folder d) = []

unfoldable pub no_file : Model → List ℕ → ℕ
no_file m path = require (path_ok path) 9 (require (shallow (leading (parts path))) 17 (require (shows_file (m.at path)) 10 0))

abbrev pub answered : ℕ → List ℕ → List ℕ → ReadAnswer
answered number given buffer = accept number (record { number = 0; count = length given; buffer = splice buffer 0 given }) (record { number = number; count = 0; buffer = buffer })

unfoldable pub read_in : Model → List ℕ → ℕ → List ℕ → ReadAnswer
read_in m path offset buffer =
    let bytes = bytes_in (m.at path) in
    answered (first_of (no_file m path) (require (leb offset (length bytes)) 12 0)) (part bytes offset (length buffer)) buffer

unfoldable pub read_attributes_in : Model → List ℕ → List ℕ → ReadAnswer
read_attributes_in m path buffer = answered (no_file m path) (take (512 * (length buffer / 512)) (attributes_in (m.at path))) buffer

-- the settings of a serial number in a directory: its revisions, oldest first
abbrev pub revisions_in : Model → (directory serial : List ℕ) → List Revision
revisions_in m directory serial = held_in (settings (m.at (path_of directory serial)))

unfoldable pub settings_in : Model → (directory serial : List ℕ) → Which → List ℕ → GetAnswer
settings_in m directory serial which buffer =
    let x = m.at (path_of directory serial) in
    let rs = revisions_in m directory serial in
    let revision = wanted rs which in
    let number = first_of (address_refusal directory serial (leb max_setting (length buffer))) (require (shows_file x) 10 (sought_refusal (settings x) which)) in
    accept number (got_answer 0 revision (length (data_of revision rs)) (splice buffer 0 (data_of revision rs))) (got_answer number 0 0 buffer)
