-- The laws of custom sections.
use Rattle.std.proofs.Common.{ℕ, List, [], sym}
use Rattle.std.proofs.lemmas.List.{append-nil}
use Rattle.wenc_base.specs.Piece.{Wide, raw, ◌⨾◌}
use Rattle.wenc_base.specs.Forms.{name, AreBytes}
use Rattle.wenc_base.specs.Readers.{Lawful, Reader, ◌>>=◌, give, go_on, done}
use Rattle.wenc_base.specs.laws.Lawful.{LawfulWhole, then, last, then_whole, whole_lawful}
use Rattle.wenc_base.specs.laws.Forms.{name_lawful, name_sound, list_lawful, sized_lawful, bytes_lawful, bytes_sound}
use Rattle.wenc_base.specs.reading.Forms.{read_name, read_list, read_sized, read_bytes}
use Rattle.wenc_base.specs.laws.Sound.{SoundWhole, then_whole_sound}
use Rattle.wenc_base.specs.Custom.{Custom, custom}
use Rattle.wenc_base.specs.Producers.{Producer, producer, Producers, producers_field}
use Rattle.wenc_base.specs.Producers.{producers_label, producers_section}
use Rattle.wenc_base.specs.inside.Sections.{labelled_section, read_custom_content}

pub custom_content_lawful : (c : Custom) → LawfulWhole (name c.label ⨾ raw AreBytes c.bytes)
    (λ fuel. read_custom_content) c
custom_content_lawful c = then_whole _ (name_lawful c.label) (bytes_lawful (labelled_section c.label) c.bytes)

pub custom_content_sound : SoundWhole (λ c. name c.label ⨾ raw AreBytes c.bytes) read_custom_content
custom_content_sound = then_whole_sound (λ c. name c.label ⨾ raw AreBytes c.bytes)
    (λ label. read_bytes (labelled_section label)) name_sound
    (λ label bytes middle r. bytes_sound
    (λ c. (name c.label ⨾ raw AreBytes c.bytes).Reads Wide bytes []) (labelled_section label) middle
    (λ h. (middle, r, (h, sym (append-nil middle)))))

abbrev pub read_custom : Reader Custom
read_custom = read_sized read_custom_content

pub custom_lawful : (c : Custom) → Lawful (custom c) (λ fuel. read_custom) c
custom_lawful c = sized_lawful (custom_content_lawful c)

abbrev versioned : List ℕ → List ℕ → Producer
versioned tool version = record { tool = tool; version = version }

abbrev pub read_producer : Reader Producer
read_producer = read_name >>= λ tool. read_name >>= λ version. give (versioned tool version)

pub producer_lawful : (p : Producer) → Lawful (producer p) (λ fuel. read_producer) p
producer_lawful p = then _ (name_lawful p.tool) (last (versioned p.tool) (name_lawful p.version))

abbrev did : List ℕ → List Producer → Producers
did field tools = record { field = field; tools = tools }

abbrev pub read_producers_field : Reader Producers
read_producers_field = read_name >>= λ field. read_list read_producer >>= λ tools. give (did field tools)

pub producers_field_lawful : (f : Producers) → Lawful (producers_field f) (λ fuel. read_producers_field) f
producers_field_lawful f = then _ (name_lawful f.field) (last (did f.field) (list_lawful producer_lawful f.tools))

abbrev pub read_producers_section : Reader (List Producers)
read_producers_section = read_sized
    (λ content. go_on (read_name content) (λ label. done (read_list read_producers_field)))

pub producers_section_lawful : (fs : List Producers) → Lawful (producers_section fs) (λ fuel. read_producers_section) fs
producers_section_lawful fs = sized_lawful
    (then_whole _ (name_lawful producers_label)
    (whole_lawful (list_lawful producers_field_lawful fs)))
