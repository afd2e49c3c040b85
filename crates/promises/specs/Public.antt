-- Every public function that answers or writes, crate by crate: how many lifetimes it has, its
-- parameters, its contract, its code and its name, and the definition that it gives, from the
-- parameters' contents to the answer and the content of each slice that it is lent to write
-- (`Parameters` and `Contract` say all that this promises). Not here are the functions that only
-- print (docs/CONTRACTS.md lists them): they answer nothing and are lent nothing to write.
use Rattle.std.specs.Prelude.{ℕ, List, [], ◌∷◌, Option, Result}
use Rattle.std.specs.Borrow.{Array, u8, u16, u32, u64, usize, unit}
use Rattle.std.specs.contracts.option.Option as options
use Rattle.std.specs.contracts.result.Result as results
use denote.Struct.Tuple.{Tuple}
use prog.Routine.{Env}
use prog.Wired.{Wired}
use Rattle.octets.specs.contracts as octets
use Rattle.octets.proofs as octets_code
use Rattle.sections.specs.contracts as sections
use Rattle.sections.proofs as sections_code
use Rattle.sections.specs.contracts.indicator.Indicator as Indicator
use Rattle.sections.proofs.indicator.Indicator as IndicatorCode
use Rattle.sections.specs.contracts.identification.Identification as Identification
use Rattle.sections.proofs.identification.Identification as IdentificationCode
use Rattle.sections.specs.contracts.grid_definition.GridDefinition as GridDefinition
use Rattle.sections.proofs.grid_definition.GridDefinition as GridDefinitionCode
use Rattle.sections.specs.contracts.prod_definition.ProdDefinition as ProdDefinition
use Rattle.sections.proofs.prod_definition.ProdDefinition as ProdDefinitionCode
use Rattle.sections.specs.contracts.repr_definition.ReprDefinition as ReprDefinition
use Rattle.sections.proofs.repr_definition.ReprDefinition as ReprDefinitionCode
use Rattle.sections.specs.contracts.bit_map.BitMap as BitMap
use Rattle.sections.proofs.bit_map.BitMap as BitMapCode
use Rattle.products.specs.contracts as products
use Rattle.products.proofs as products_code
use Rattle.framing.specs.contracts as framing
use Rattle.framing.proofs as framing_code
use Rattle.order.specs.contracts as order
use Rattle.order.proofs as order_code
use Rattle.index.specs.contracts as index
use Rattle.index.proofs as index_code
use Rattle.reading.specs.contracts as reading
use Rattle.reading.proofs as reading_code
use Rattle.standing.specs.contracts as standing
use Rattle.standing.proofs as standing_code
use Rattle.walk.specs.contracts as walk
use Rattle.walk.proofs as walk_code
use Rattle.walk_numbers.specs.contracts as walk_numbers
use Rattle.walk_numbers.proofs as walk_numbers_code
use Rattle.pull.specs.contracts as pull
use Rattle.pull.proofs as pull_code
use Rattle.publish.specs.contracts as publish
use Rattle.publish.proofs as publish_code
use Rattle.writer.specs.contracts as writer
use Rattle.writer.proofs as writer_code
use Rattle.entries.specs.contracts as entries
use Rattle.entries.proofs as entries_code
use Rattle.inventory.specs.contracts as inventory
use Rattle.inventory.proofs as inventory_code
use Rattle.lists.specs.contracts as lists
use Rattle.lists.proofs as lists_code
use Rattle.requests.specs.contracts as requests
use Rattle.requests.proofs as requests_code
use Rattle.buttresk.specs.contracts as buttresk
use Rattle.buttresk.proofs as buttresk_code
use Rattle.buttresk.specs.contracts.storing.StoreAnswerFromStoreEnd as StoreAnswer
use Rattle.buttresk.proofs.storing.StoreAnswerFromStoreEnd as StoreAnswerCode
use Rattle.buttresk.specs.contracts.listing.ReadAnswerFromListAnswer as ReadAnswer
use Rattle.buttresk.proofs.listing.ReadAnswerFromListAnswer as ReadAnswerCode
use Rattle.buttresk.specs.contracts.product.OctetFieldFromOptionU8 as OctetField
use Rattle.buttresk.proofs.product.OctetFieldFromOptionU8 as OctetFieldCode
use Rattle.buttresk.specs.contracts.product.TimeFieldFromOptionForecastTime as TimeField
use Rattle.buttresk.proofs.product.TimeFieldFromOptionForecastTime as TimeFieldCode
use Rattle.buttresk.specs.contracts.product.SurfaceFromFixedSurface as Surface
use Rattle.buttresk.proofs.product.SurfaceFromFixedSurface as SurfaceCode
use Rattle.buttresk.specs.contracts.product.SurfacesFieldFromOptionTuple2FixedSurfaceFixedSurface
    as SurfacesField
use Rattle.buttresk.proofs.product.SurfacesFieldFromOptionTuple2FixedSurfaceFixedSurface
    as SurfacesFieldCode
use Rattle.buttresk.specs.contracts.product.WhenWhereFieldsFromWhenWhere as WhenWhereFields
use Rattle.buttresk.proofs.product.WhenWhereFieldsFromWhenWhere as WhenWhereFieldsCode
use Rattle.products.specs.contracts.templates.TemplateReading as TemplateReading
use Rattle.products.specs.contracts.ForecastTime as ForecastTime
use Rattle.products.specs.contracts.FixedSurface as FixedSurface
use Rattle.products.specs.contracts.WhenWhere as WhenWhere
use Rattle.framing.specs.contracts.read.Cursor as Cursor
use Rattle.framing.specs.contracts.read.Section as Section
use Rattle.order.specs.contracts.Order as Order
use Rattle.order.specs.contracts.Place as Place
use Rattle.index.specs.contracts.line.Force as Force
use Rattle.index.specs.contracts.line.Span as Span
use Rattle.index.specs.contracts.line.Line as Line
use Rattle.index.specs.contracts.refusal.Refused as refused_type
use Rattle.index.specs.contracts.numbers.StoreEnd as StoreEnd
use Rattle.reading.specs.contracts.Reading as Reading
use Rattle.standing.specs.contracts.Standing as Standing
use Rattle.pull.specs.contracts.Progress as Progress
use Rattle.publish.specs.contracts.CopyRefusal as CopyRefusal
use Rattle.writer.specs.contracts.WriteRefusal as WriteRefusal
use Rattle.entries.specs.contracts.Entry as Entry
use Rattle.inventory.specs.contracts.InventoryRefusal as InventoryRefusal
use Rattle.lists.specs.contracts.ListRefusal as ListRefusal
use Rattle.lists.specs.contracts.ListAnswer as ListAnswer
use Rattle.octets.specs.BigEndian.{be_at}
use Rattle.octets.specs.Signed.{signed_of}
use Rattle.sections.specs.Kinds.{least_payload_of, values_of}
use Rattle.sections.specs.Indicator.{indicator_of}
use Rattle.sections.specs.Identification.{identification_of}
use Rattle.sections.specs.GridDefinition.{grid_definition_of}
use Rattle.sections.specs.ProdDefinition.{prod_definition_of}
use Rattle.sections.specs.ReprDefinition.{repr_definition_of}
use Rattle.sections.specs.BitMap.{bit_map_of}
use Rattle.products.specs.Readings.{offsets_of}
use Rattle.products.specs.Rows.{offsets_by}
use Rattle.products.specs.Products.{when_where_of, product_of, product_by}
use Rattle.framing.specs.Framing.{framed, read_at}
use Rattle.framing.specs.Search.{next_start}
use Rattle.order.specs.Order.{judged, judged_read, completes, is_between, order_of}
use Rattle.index.specs.Lines.{opened, in_force, with_span, with_submessage, line_of, unlisted}
use Rattle.index.specs.Numbers.{end_of, stored, unplaced}
use Rattle.reading.specs.Reading.{start, seen}
use Rattle.standing.specs.Put.{row_put, numbers_put}
use Rattle.standing.specs.Standing.{one_more, span_after, passed_row}
use Rattle.walk.specs.Tables.{walk_of}
use Rattle.walk_numbers.specs.Numbers.{walk_numbers}
use Rattle.pull.specs.Calls.{first_of, pull_at}
use Rattle.pull.specs.declared.Progress.{Progress}
use Rattle.publish.specs.Values.{licensed}
use Rattle.publish.specs.Copy.{copy_of}
use Rattle.publish.specs.End.{copy_end}
use Rattle.writer.specs.Write.{write_of}
use Rattle.writer.specs.End.{write_end}
use Rattle.entries.specs.Entries.{spelled_of}
use Rattle.inventory.specs.Inventory.{inventory_of}
use Rattle.inventory.specs.End.{inventory_end}
use Rattle.lists.specs.Lists.{read_of}
use Rattle.lists.specs.End.{list_end}
use Rattle.requests.specs.Requests.{request_at}
use Rattle.buttresk.specs.Fields.{
  indicator_fields,
  identification_fields,
  grid_fields,
  representation_fields,
  bit_map_fields,
}
use Rattle.buttresk.specs.Product.{
  octet_field,
  time_field,
  surface_numbers,
  surfaces_field,
  when_where_numbers,
  product_fields,
  when_where_fields,
}
use Rattle.buttresk.specs.Stores.{five_of}
use Rattle.buttresk.specs.Lists.{read_answer_of}
use Rattle.promises.specs.Contract.{SeenIs, Promised}
use Rattle.promises.specs.Parameters.{
  value,
  lent,
  lent_mut,
  contents_of,
  MayPassAll,
  Gives,
}
use Rattle.index.specs.declared.listed.Listed.{Listed}
use Rattle.index.specs.declared.refusal.Refused.{Refused}

-- in memory of one kind
pub record PublicFunctions (M : Type 1) : Type 2 where
  -- octets: big-endian numbers, and the number by sign and size
  pub octets_be16 : Gives M 0 (value (Array u8 2) ∷ []) (λ _. octets.be16.clauses)
      octets_code.be16.Symbol.code octets.be16.Key.name (λ (octets, _). be_at octets 0 2)
  pub octets_be32 : Gives M 0 (value (Array u8 4) ∷ []) (λ _. octets.be32.clauses)
      octets_code.be32.Symbol.code octets.be32.Key.name (λ (octets, _). be_at octets 0 4)
  pub octets_be64 : Gives M 0 (value (Array u8 8) ∷ []) (λ _. octets.be64.clauses)
      octets_code.be64.Symbol.code octets.be64.Key.name (λ (octets, _). be_at octets 0 8)
  pub octets_sign_and_size : Gives M 1 (lent 0 tt u8 ∷ []) (λ _. octets.sign_and_size.clauses)
      octets_code.sign_and_size.Symbol.code octets.sign_and_size.Key.name
      (λ (octets, _). signed_of octets)
  -- sections: what a kind says of its number, and the decoded fields
  pub sections_least_payload_of : Gives M 0 (value u64 ∷ [])
      (λ _. sections.least_payload_of.clauses) sections_code.least_payload_of.Symbol.code
      sections.least_payload_of.Key.name (λ (number, _). least_payload_of number)
  pub sections_values_of : Gives M 0 (value u64 ∷ []) (λ _. sections.values_of.clauses)
      sections_code.values_of.Symbol.code sections.values_of.Key.name
      (λ (number, _). values_of number)
  pub Indicator-from_section : Gives M 1 (lent 0 tt u8 ∷ []) (λ _. Indicator.from_section.clauses)
      IndicatorCode.from_section.Symbol.code Indicator.from_section.Key.name
      (λ (section, _). indicator_of section)
  pub Identification-from_payload : Gives M 1 (lent 0 tt u8 ∷ [])
      (λ _. Identification.from_payload.clauses) IdentificationCode.from_payload.Symbol.code
      Identification.from_payload.Key.name (λ (payload, _). identification_of payload)
  pub GridDefinition-from_payload : Gives M 1 (lent 0 tt u8 ∷ [])
      (λ _. GridDefinition.from_payload.clauses) GridDefinitionCode.from_payload.Symbol.code
      GridDefinition.from_payload.Key.name (λ (payload, _). grid_definition_of payload)
  pub ProdDefinition-from_payload : Gives M 1 (lent 0 tt u8 ∷ [])
      (λ _. ProdDefinition.from_payload.clauses) ProdDefinitionCode.from_payload.Symbol.code
      ProdDefinition.from_payload.Key.name (λ (payload, _). prod_definition_of payload)
  pub ReprDefinition-from_payload : Gives M 1 (lent 0 tt u8 ∷ [])
      (λ _. ReprDefinition.from_payload.clauses) ReprDefinitionCode.from_payload.Symbol.code
      ReprDefinition.from_payload.Key.name (λ (payload, _). repr_definition_of payload)
  pub BitMap-from_payload : Gives M 1 (lent 0 tt u8 ∷ []) (λ _. BitMap.from_payload.clauses)
      BitMapCode.from_payload.Symbol.code BitMap.from_payload.Key.name
      (λ (payload, _). bit_map_of payload)
  -- products: where a template holds what, when and where, and the product fields, by a reading of
  -- our table and of a lent one
  pub products_offsets_at : Gives M 0 (value TemplateReading.the_row ∷ value u16 ∷ [])
      (λ _. products.offsets_at.clauses) products_code.offsets_at.Symbol.code
      products.offsets_at.Key.name (λ (reading, (template, _)). offsets_of reading template)
  pub products_offsets_by : Gives M 1
      (lent 0 tt u32 ∷ value TemplateReading.the_row ∷ value u16 ∷ [])
      (λ _. products.offsets_by.clauses) products_code.offsets_by.Symbol.code
      products.offsets_by.Key.name
      (λ (rows, (reading, (template, _))). offsets_by rows reading template)
  pub products_when_and_where : Gives M 1 (value TemplateReading.the_row ∷ lent 0 tt u8 ∷ [])
      (λ _. products.when_and_where.clauses) products_code.when_and_where.Symbol.code
      products.when_and_where.Key.name (λ (reading, (payload, _)). when_where_of reading payload)
  pub products_product_of : Gives M 1 (value TemplateReading.the_row ∷ lent 0 tt u8 ∷ [])
      (λ _. products.product_of.clauses) products_code.product_of.Symbol.code
      products.product_of.Key.name (λ (reading, (payload, _)). product_of reading payload)
  pub products_product_by : Gives M 2
      (lent 0 tt u32 ∷ value TemplateReading.the_row ∷ lent 1 tt u8 ∷ [])
      (λ _. products.product_by.clauses) products_code.product_by.Symbol.code
      products.product_by.Key.name
      (λ (rows, (reading, (payload, _))). product_by rows reading payload)
  -- framing: what stands at a cursor, and where the next message starts
  pub framing_framed_at : Gives M 1 (lent 0 tt u8 ∷ value Cursor.the_row ∷ [])
      (λ _. framing.framed_at.clauses) framing_code.framed_at.Symbol.code framing.framed_at.Key.name
      (λ (file, (cursor, _)). framed (read_at file cursor.at.0 cursor.rest))
  pub framing_next_start : Gives M 1 (lent 0 tt u8 ∷ value usize ∷ [])
      (λ _. framing.next_start.clauses) framing_code.next_start.Symbol.code
      framing.next_start.Key.name (λ (file, (at, _)). next_start file at)
  -- order: which section may come next
  pub order_judge : Gives M 0 (value Order.the_row ∷ value u64 ∷ []) (λ _. order.judge.clauses)
      order_code.judge.Symbol.code order.judge.Key.name
      (λ (order, (number, _)). judged order number)
  pub order_judge_read : Gives M 0 (value Order.the_row ∷ value u64 ∷ [])
      (λ _. order.judge_read.clauses) order_code.judge_read.Symbol.code order.judge_read.Key.name
      (λ (order, (number, _)). judged_read order number)
  pub order_completing : Gives M 0 (value Order.the_row ∷ value u64 ∷ [])
      (λ _. order.completing.clauses) order_code.completing.Symbol.code order.completing.Key.name
      (λ (order, (number, _)). completes order number)
  pub order_between_messages : Gives M 0 (value Order.the_row ∷ [])
      (λ _. order.between_messages.clauses) order_code.between_messages.Symbol.code
      order.between_messages.Key.name (λ (order, _). is_between order)
  pub order_judge_all : Gives M 1 (lent 0 tt u64 ∷ []) (λ _. order.judge_all.clauses)
      order_code.judge_all.Symbol.code order.judge_all.Key.name (λ (numbers, _). order_of numbers)
  -- index: what is in force, a submessage's line, and document 01's numbers
  pub index_opened : Gives M 0 (value u64 ∷ []) (λ _. index.opened.clauses)
      index_code.opened.Symbol.code index.opened.Key.name (λ (message, _). opened message)
  pub index_in_force : Gives M 0 (value Force.the_row ∷ value u64 ∷ value Place.the_row ∷ [])
      (λ _. index.in_force.clauses) index_code.in_force.Symbol.code index.in_force.Key.name
      (λ (force, (number, (here, _))). in_force force number here)
  pub index_with_span : Gives M 0 (value Force.the_row ∷ value Span.the_row ∷ [])
      (λ _. index.with_span.clauses) index_code.with_span.Symbol.code index.with_span.Key.name
      (λ (force, (span, _)). with_span force span)
  pub index_with_submessage : Gives M 0 (value Force.the_row ∷ value u64 ∷ [])
      (λ _. index.with_submessage.clauses) index_code.with_submessage.Symbol.code
      index.with_submessage.Key.name (λ (force, (submessage, _)). with_submessage force submessage)
  pub index_line_of : Gives M 0 (value Force.the_row ∷ value (options.the_row Place.the_row) ∷ [])
      (λ _. index.line_of.clauses) index_code.line_of.Symbol.code index.line_of.Key.name
      (λ (force, (end, _)). line_of force end)
  pub index_unlisted : Gives M 0 [] (λ _. index.unlisted.clauses) index_code.unlisted.Symbol.code
      index.unlisted.Key.name (λ _. unlisted)
  pub index_end_of : Gives M 0 (value (results.the_row unit refused_type.the_row) ∷ [])
      (λ _. index.end_of.clauses)
      index_code.end_of.Symbol.code index.end_of.Key.name (λ (outcome, _). end_of outcome)
  pub index_stored : Gives M 0 (value u64 ∷ []) (λ _. index.stored.clauses)
      index_code.stored.Symbol.code index.stored.Key.name (λ (octets, _). stored octets)
  pub index_unplaced : Gives M 0 (value u64 ∷ value u64 ∷ []) (λ _. index.unplaced.clauses)
      index_code.unplaced.Symbol.code index.unplaced.Key.name
      (λ (outcome, (detail, _)). unplaced outcome detail)
  -- reading: the one step
  pub reading_start : Gives M 0 [] (λ _. reading.start.clauses) reading_code.start.Symbol.code
      reading.start.Key.name (λ _. start)
  pub reading_look : Gives M 1 (lent 0 tt u8 ∷ value Reading.the_row ∷ [])
      (λ _. reading.look.clauses) reading_code.look.Symbol.code reading.look.Key.name
      (λ (file, (reading, _)). seen file reading)
  pub reading_glance : Gives M 1 (lent 0 tt u8 ∷ value Reading.the_row ∷ [])
      (λ _. reading.glance.clauses) reading_code.glance.Symbol.code reading.glance.Key.name
      (λ (file, (reading, _)). seen file reading)
  -- standing: a count, where a message and a walk stand behind a section, and the whole section
  -- table
  pub standing_one_more : Gives M 0 (value u64 ∷ []) (λ _. standing.one_more.clauses)
      standing_code.one_more.Symbol.code standing.one_more.Key.name (λ (n, _). one_more n)
  pub standing_span_after : Gives M 0
      (value Span.the_row ∷ value Section.the_row ∷ value Cursor.the_row ∷ [])
      (λ _. standing.span_after.clauses) standing_code.span_after.Symbol.code
      standing.span_after.Key.name
      (λ (before, (section, (next, _))). span_after before section next)
  pub standing_passed_row : Gives M 0
      (value Standing.the_row ∷ value Section.the_row ∷ value Reading.the_row ∷ [])
      (λ _. standing.passed_row.clauses) standing_code.passed_row.Symbol.code
      standing.passed_row.Key.name (λ (at, (section, (next, _))). passed_row at section next)
  pub standing_put_row : Gives M 1 (lent_mut 0 tt u64 ∷ value u64 ∷ value Section.the_row ∷ [])
      (λ _. standing.put_row.clauses) standing_code.put_row.Symbol.code standing.put_row.Key.name
      (λ (rows, (place, (section, _))). (tt, row_put place section rows))
  pub standing_put_numbers : Gives M 2 (lent_mut 0 tt u64 ∷ value usize ∷ lent 1 tt u64 ∷ [])
      (λ _. standing.put_numbers.clauses) standing_code.put_numbers.Symbol.code
      standing.put_numbers.Key.name
      (λ (table, (at, (numbers, _))). (tt, numbers_put at numbers table))
  -- walk: the answer and the whole of both tables
  pub walk_walk : Gives M 3 (lent 0 tt u8 ∷ lent_mut 1 tt u64 ∷ lent_mut 2 tt Line.the_row ∷ [])
      (λ _. walk.walk.clauses) walk_code.walk.Symbol.code walk.walk.Key.name
      (λ (file, (rows, (lines, _))). let tables = walk_of file rows lines in
      ((tables.answer, tables.rows), tables.lines))
  -- walk_numbers: the same, with lines as numbers
  pub walk_numbers_walk_numbers : Gives M 3
      (lent 0 tt u8 ∷ lent_mut 1 tt u64 ∷ lent_mut 2 tt u64 ∷ [])
      (λ _. walk_numbers.walk_numbers.clauses) walk_numbers_code.walk_numbers.Symbol.code
      walk_numbers.walk_numbers.Key.name
      (λ (file, (rows, (lines, _))). let told = walk_numbers file rows lines in
      ((told.answer, told.rows), told.lines))
  -- pull: of a reader the content of its file and its progress are taken and seen; `new` holds the
  -- very file that it was lent, and `next` keeps it
  pub pull_first : Gives M 1 (lent 0 tt u8 ∷ []) (λ _. pull.first.clauses)
      pull_code.first.Symbol.code pull.first.Key.name (λ (file, _). first_of file)
  pub pull_pull_at : Gives M 1 (lent 0 tt u8 ∷ value Progress.the_row ∷ [])
      (λ _. pull.pull_at.clauses) pull_code.pull_at.Symbol.code pull.pull_at.Key.name
      (λ (file, (progress, _)). pull_at file progress)
  pub pull_new : Promised M pull.new.ended (λ _. pull.new.clauses) pull_code.new.Symbol.code
      pull.new.Key.name {O = List ℕ × Progress} (contents_of {n = 1} (lent 0 tt u8 ∷ []))
      (MayPassAll {n = 1} (lent 0 tt u8 ∷ [])) (λ κs reader _. (reader.file.now, reader.progress))
      (λ (file, _). (file, first_of file))
  pub pull_new_holds : SeenIs M pull.new.ended (λ _. pull.new.clauses)
      (λ κs (file, _). file) (λ κs reader _. reader.file) (λ file. file)
  pub pull-Reader_next : Promised M pull.Reader.next.ended (λ _. pull.Reader.next.clauses)
      pull_code.Reader.next.Symbol.code pull.Reader.next.Key.name
      {O = Option (Result Listed Refused) × List ℕ × Progress}
      (λ κs (reader, _). (reader.now.file.now, reader.now.progress))
      (λ (file, progress). MayPassAll {n = 1} (lent 0 tt u8 ∷ value Progress.the_row ∷ [])
      (file, (progress, tt)))
      (λ κs answer (reader, _). (answer, reader.now.file.now, reader.now.progress))
      (λ (file, progress). ((pull_at file progress).answer, file, (pull_at file progress).next))
  pub pull-Reader_next_keeps : SeenIs M pull.Reader.next.ended (λ _. pull.Reader.next.clauses)
      (λ κs (reader, _). reader.now.file) (λ κs _ (reader, _). reader.now.file) (λ file. file)
  -- publish: the answer and the whole destination
  pub publish_publish : Gives M 2 (lent 0 tt u8 ∷ lent_mut 1 tt u8 ∷ [])
      (λ _. publish.publish.clauses) publish_code.publish.Symbol.code publish.publish.Key.name
      (λ (file, (dest, _)). let copied = copy_of licensed file dest in
      (copied.answer, copied.dest))
  pub publish_copy_end : Gives M 0 (value (results.the_row usize CopyRefusal.the_row) ∷ [])
      (λ _. publish.copy_end.clauses)
      publish_code.copy_end.Symbol.code publish.copy_end.Key.name (λ (answer, _). copy_end answer)
  -- writer: the answer and the whole destination
  pub writer_write : Gives M 3 (value u8 ∷ value u8 ∷ value u8 ∷
      lent 0 tt u64 ∷ lent 1 tt u8 ∷ lent_mut 2 tt u8 ∷ []) (λ _. writer.write.clauses)
      writer_code.write.Symbol.code writer.write.Key.name
      (λ (discipline, (reserved₁, (reserved₂, (plan, (store, (dest, _)))))).
      let wrote = write_of discipline reserved₁ reserved₂ plan store dest in
      (wrote.answer, wrote.dest))
  pub writer_write_end : Gives M 0 (value (results.the_row u64 WriteRefusal.the_row) ∷ [])
      (λ _. writer.write_end.clauses)
      writer_code.write_end.Symbol.code writer.write_end.Key.name (λ (answer, _). write_end answer)
  -- entries, inventory, lists: an entry's line; the answer and the whole buffer; the answer and the
  -- whole table
  pub entries_spell : Gives M 0 (value Entry.the_row ∷ []) (λ _. entries.spell.clauses)
      entries_code.spell.Symbol.code entries.spell.Key.name (λ (entry, _). spelled_of entry)
  pub inventory_inventory : Gives M 2 (lent 0 tt u8 ∷ lent_mut 1 tt u8 ∷ [])
      (λ _. inventory.inventory.clauses) inventory_code.inventory.Symbol.code
      inventory.inventory.Key.name
      (λ (file, (text, _)). let wrote = inventory_of file text in (wrote.answer, wrote.text))
  pub inventory_inventory_end : Gives M 0
      (value (results.the_row usize InventoryRefusal.the_row) ∷ [])
      (λ _. inventory.inventory_end.clauses) inventory_code.inventory_end.Symbol.code
      inventory.inventory_end.Key.name (λ (answer, _). inventory_end answer)
  pub lists_read_list : Gives M 2 (lent 0 tt u8 ∷ lent_mut 1 tt u64 ∷ [])
      (λ _. lists.read_list.clauses) lists_code.read_list.Symbol.code lists.read_list.Key.name
      (λ (text, (table, _)). let stored = read_of text table in
      (stored.answer, stored.table))
  pub lists_list_end : Gives M 0 (value (results.the_row unit ListRefusal.the_row) ∷ [])
      (λ _. lists.list_end.clauses)
      lists_code.list_end.Symbol.code lists.list_end.Key.name (λ (end, _). list_end end)
  -- requests: the request at a place of an input
  pub requests_request_at : Gives M 1 (lent 0 tt u8 ∷ value usize ∷ [])
      (λ _. requests.request_at.clauses) requests_code.request_at.Symbol.code
      requests.request_at.Key.name (λ (input, (at, _)). request_at input at)
  -- buttresk, the C face: the walk in numbers, the copy, the message, the inventory, a list, the
  -- fields
  pub buttresk_walk : Gives M 3 (lent 0 tt u8 ∷ lent_mut 1 tt u64 ∷ lent_mut 2 tt u64 ∷ [])
      (λ _. buttresk.buttresk_walk.clauses) buttresk_code.buttresk_walk.Symbol.code
      buttresk.buttresk_walk.Key.name
      (λ (file, (rows, (lines, _))). let told = walk_numbers file rows lines in
      ((told.answer, told.rows), told.lines))
  pub buttresk_publish : Gives M 2 (lent 0 tt u8 ∷ lent_mut 1 tt u8 ∷ [])
      (λ _. buttresk.buttresk_publish.clauses) buttresk_code.buttresk_publish.Symbol.code
      buttresk.buttresk_publish.Key.name
      (λ (file, (dest, _)). let copied = copy_of licensed file dest in
      (five_of (copy_end copied.answer), copied.dest))
  pub buttresk_write : Gives M 3 (value u8 ∷ value u8 ∷ value u8 ∷
      lent 0 tt u64 ∷ lent 1 tt u8 ∷ lent_mut 2 tt u8 ∷ []) (λ _. buttresk.buttresk_write.clauses)
      buttresk_code.buttresk_write.Symbol.code buttresk.buttresk_write.Key.name
      (λ (discipline, (reserved₁, (reserved₂, (plan, (store, (dest, _)))))).
      let wrote = write_of discipline reserved₁ reserved₂ plan store dest in
      (five_of (write_end wrote.answer), wrote.dest))
  pub buttresk_inventory : Gives M 2 (lent 0 tt u8 ∷ lent_mut 1 tt u8 ∷ [])
      (λ _. buttresk.buttresk_inventory.clauses) buttresk_code.buttresk_inventory.Symbol.code
      buttresk.buttresk_inventory.Key.name
      (λ (file, (text, _)). let wrote = inventory_of file text in
      (five_of (inventory_end wrote.answer), wrote.text))
  pub buttresk_read_list : Gives M 2 (lent 0 tt u8 ∷ lent_mut 1 tt u64 ∷ [])
      (λ _. buttresk.buttresk_read_list.clauses) buttresk_code.buttresk_read_list.Symbol.code
      buttresk.buttresk_read_list.Key.name (λ (text, (table, _)). let stored = read_of text table in
      (read_answer_of stored.answer, stored.table))
  pub buttresk_indicator : Gives M 1 (lent 0 tt u8 ∷ []) (λ _. buttresk.buttresk_indicator.clauses)
      buttresk_code.buttresk_indicator.Symbol.code buttresk.buttresk_indicator.Key.name
      (λ (section, _). indicator_fields (indicator_of section))
  pub buttresk_identification : Gives M 1 (lent 0 tt u8 ∷ [])
      (λ _. buttresk.buttresk_identification.clauses)
      buttresk_code.buttresk_identification.Symbol.code buttresk.buttresk_identification.Key.name
      (λ (payload, _). identification_fields (identification_of payload))
  pub buttresk_grid_definition : Gives M 1 (lent 0 tt u8 ∷ [])
      (λ _. buttresk.buttresk_grid_definition.clauses)
      buttresk_code.buttresk_grid_definition.Symbol.code buttresk.buttresk_grid_definition.Key.name
      (λ (payload, _). grid_fields (grid_definition_of payload))
  pub buttresk_product_definition : Gives M 1 (value u64 ∷ lent 0 tt u8 ∷ [])
      (λ _. buttresk.buttresk_product_definition.clauses)
      buttresk_code.buttresk_product_definition.Symbol.code
      buttresk.buttresk_product_definition.Key.name
      (λ (reading, (payload, _)). product_fields reading payload)
  pub buttresk_when_and_where : Gives M 1 (value u64 ∷ lent 0 tt u8 ∷ [])
      (λ _. buttresk.buttresk_when_and_where.clauses)
      buttresk_code.buttresk_when_and_where.Symbol.code buttresk.buttresk_when_and_where.Key.name
      (λ (reading, (payload, _)). when_where_fields reading payload)
  pub buttresk_representation : Gives M 1 (lent 0 tt u8 ∷ [])
      (λ _. buttresk.buttresk_representation.clauses)
      buttresk_code.buttresk_representation.Symbol.code buttresk.buttresk_representation.Key.name
      (λ (payload, _). representation_fields (repr_definition_of payload))
  pub buttresk_bit_map : Gives M 1 (lent 0 tt u8 ∷ []) (λ _. buttresk.buttresk_bit_map.clauses)
      buttresk_code.buttresk_bit_map.Symbol.code buttresk.buttresk_bit_map.Key.name
      (λ (payload, _). bit_map_fields (bit_map_of payload))
  -- and the structs of numbers that it answers, each made of what the library answers
  pub StoreAnswer-from : Gives M 0 (value StoreEnd.the_row ∷ []) (λ _. StoreAnswer.from.clauses)
      StoreAnswerCode.from.Symbol.code StoreAnswer.from.Key.name (λ (answer, _). five_of answer)
  pub ReadAnswer-from : Gives M 0 (value ListAnswer.the_row ∷ []) (λ _. ReadAnswer.from.clauses)
      ReadAnswerCode.from.Symbol.code ReadAnswer.from.Key.name
      (λ (answer, _). read_answer_of answer)
  pub OctetField-from : Gives M 0 (value (options.the_row u8) ∷ []) (λ _. OctetField.from.clauses)
      OctetFieldCode.from.Symbol.code OctetField.from.Key.name (λ (maybe, _). octet_field maybe)
  pub TimeField-from : Gives M 0 (value (options.the_row ForecastTime.the_row) ∷ [])
      (λ _. TimeField.from.clauses) TimeFieldCode.from.Symbol.code TimeField.from.Key.name
      (λ (maybe, _). time_field maybe)
  pub Surface-from : Gives M 0 (value FixedSurface.the_row ∷ []) (λ _. Surface.from.clauses)
      SurfaceCode.from.Symbol.code Surface.from.Key.name
      (λ (surface, _). surface_numbers surface)
  pub SurfacesField-from : Gives M 0
      (value (options.the_row (Tuple (FixedSurface.the_row ∷ FixedSurface.the_row ∷ []))) ∷ [])
      (λ _. SurfacesField.from.clauses) SurfacesFieldCode.from.Symbol.code
      SurfacesField.from.Key.name (λ (maybe, _). surfaces_field maybe)
  pub WhenWhereFields-from : Gives M 0 (value WhenWhere.the_row ∷ [])
      (λ _. WhenWhereFields.from.clauses) WhenWhereFieldsCode.from.Symbol.code
      WhenWhereFields.from.Key.name (λ (told, _). when_where_numbers told)

-- in memory of every kind
abbrev pub EachGivesItsDefinition : Type 2
EachGivesItsDefinition = (M : Type 1) → PublicFunctions M

-- an environment has the code of each: what it is promised, it is promised there ..
pub record HasTheCode (γ : Env) : Type 0 where
  pub octets_be16 : Wired γ octets_code.be16.Symbol.code
  pub octets_be32 : Wired γ octets_code.be32.Symbol.code
  pub octets_be64 : Wired γ octets_code.be64.Symbol.code
  pub octets_sign_and_size : Wired γ octets_code.sign_and_size.Symbol.code
  pub sections_least_payload_of : Wired γ sections_code.least_payload_of.Symbol.code
  pub sections_values_of : Wired γ sections_code.values_of.Symbol.code
  pub Indicator-from_section : Wired γ IndicatorCode.from_section.Symbol.code
  pub Identification-from_payload : Wired γ IdentificationCode.from_payload.Symbol.code
  pub GridDefinition-from_payload : Wired γ GridDefinitionCode.from_payload.Symbol.code
  pub ProdDefinition-from_payload : Wired γ ProdDefinitionCode.from_payload.Symbol.code
  pub ReprDefinition-from_payload : Wired γ ReprDefinitionCode.from_payload.Symbol.code
  pub BitMap-from_payload : Wired γ BitMapCode.from_payload.Symbol.code
  pub products_offsets_at : Wired γ products_code.offsets_at.Symbol.code
  pub products_offsets_by : Wired γ products_code.offsets_by.Symbol.code
  pub products_when_and_where : Wired γ products_code.when_and_where.Symbol.code
  pub products_product_of : Wired γ products_code.product_of.Symbol.code
  pub products_product_by : Wired γ products_code.product_by.Symbol.code
  pub framing_framed_at : Wired γ framing_code.framed_at.Symbol.code
  pub framing_next_start : Wired γ framing_code.next_start.Symbol.code
  pub order_judge : Wired γ order_code.judge.Symbol.code
  pub order_judge_read : Wired γ order_code.judge_read.Symbol.code
  pub order_completing : Wired γ order_code.completing.Symbol.code
  pub order_between_messages : Wired γ order_code.between_messages.Symbol.code
  pub order_judge_all : Wired γ order_code.judge_all.Symbol.code
  pub index_opened : Wired γ index_code.opened.Symbol.code
  pub index_in_force : Wired γ index_code.in_force.Symbol.code
  pub index_with_span : Wired γ index_code.with_span.Symbol.code
  pub index_with_submessage : Wired γ index_code.with_submessage.Symbol.code
  pub index_line_of : Wired γ index_code.line_of.Symbol.code
  pub index_unlisted : Wired γ index_code.unlisted.Symbol.code
  pub index_end_of : Wired γ index_code.end_of.Symbol.code
  pub index_stored : Wired γ index_code.stored.Symbol.code
  pub index_unplaced : Wired γ index_code.unplaced.Symbol.code
  pub reading_start : Wired γ reading_code.start.Symbol.code
  pub reading_look : Wired γ reading_code.look.Symbol.code
  pub reading_glance : Wired γ reading_code.glance.Symbol.code
  pub standing_one_more : Wired γ standing_code.one_more.Symbol.code
  pub standing_span_after : Wired γ standing_code.span_after.Symbol.code
  pub standing_passed_row : Wired γ standing_code.passed_row.Symbol.code
  pub standing_put_row : Wired γ standing_code.put_row.Symbol.code
  pub standing_put_numbers : Wired γ standing_code.put_numbers.Symbol.code
  pub walk_walk : Wired γ walk_code.walk.Symbol.code
  pub walk_numbers_walk_numbers : Wired γ walk_numbers_code.walk_numbers.Symbol.code
  pub pull_first : Wired γ pull_code.first.Symbol.code
  pub pull_pull_at : Wired γ pull_code.pull_at.Symbol.code
  pub pull_new : Wired γ pull_code.new.Symbol.code
  pub pull-Reader_next : Wired γ pull_code.Reader.next.Symbol.code
  pub publish_publish : Wired γ publish_code.publish.Symbol.code
  pub publish_copy_end : Wired γ publish_code.copy_end.Symbol.code
  pub writer_write : Wired γ writer_code.write.Symbol.code
  pub writer_write_end : Wired γ writer_code.write_end.Symbol.code
  pub entries_spell : Wired γ entries_code.spell.Symbol.code
  pub inventory_inventory : Wired γ inventory_code.inventory.Symbol.code
  pub inventory_inventory_end : Wired γ inventory_code.inventory_end.Symbol.code
  pub lists_read_list : Wired γ lists_code.read_list.Symbol.code
  pub lists_list_end : Wired γ lists_code.list_end.Symbol.code
  pub requests_request_at : Wired γ requests_code.request_at.Symbol.code
  pub buttresk_walk : Wired γ buttresk_code.buttresk_walk.Symbol.code
  pub buttresk_publish : Wired γ buttresk_code.buttresk_publish.Symbol.code
  pub buttresk_write : Wired γ buttresk_code.buttresk_write.Symbol.code
  pub buttresk_inventory : Wired γ buttresk_code.buttresk_inventory.Symbol.code
  pub buttresk_read_list : Wired γ buttresk_code.buttresk_read_list.Symbol.code
  pub buttresk_indicator : Wired γ buttresk_code.buttresk_indicator.Symbol.code
  pub buttresk_identification : Wired γ buttresk_code.buttresk_identification.Symbol.code
  pub buttresk_grid_definition : Wired γ buttresk_code.buttresk_grid_definition.Symbol.code
  pub buttresk_product_definition : Wired γ buttresk_code.buttresk_product_definition.Symbol.code
  pub buttresk_when_and_where : Wired γ buttresk_code.buttresk_when_and_where.Symbol.code
  pub buttresk_representation : Wired γ buttresk_code.buttresk_representation.Symbol.code
  pub buttresk_bit_map : Wired γ buttresk_code.buttresk_bit_map.Symbol.code
  pub StoreAnswer-from : Wired γ StoreAnswerCode.from.Symbol.code
  pub ReadAnswer-from : Wired γ ReadAnswerCode.from.Symbol.code
  pub OctetField-from : Wired γ OctetFieldCode.from.Symbol.code
  pub TimeField-from : Wired γ TimeFieldCode.from.Symbol.code
  pub Surface-from : Wired γ SurfaceCode.from.Symbol.code
  pub SurfacesField-from : Wired γ SurfacesFieldCode.from.Symbol.code
  pub WhenWhereFields-from : Wired γ WhenWhereFieldsCode.from.Symbol.code

-- .. and there is one that has all of it
abbrev pub CodeIsThere : Type 0
CodeIsThere = (γ : Env) × HasTheCode γ
